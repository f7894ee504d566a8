-- What was fed of a file, and given of its pictures, at a moment.
use Rattle.std.specs.Prelude.{◌≡◌, ℕ, ◌≤◌, Bool, true, false, List, [], ◌∷◌, ◌++◌, length, Some}
use Rattle.access_units.specs.AccessUnits.{AccessUnit}
use Rattle.access_units.specs.Acceptors.{IsSettled, Past}
use Rattle.accepted_pictures.specs.Files.{AreDecoded, Decoded, IsAcceptedPicture, pictures_in}

-- the bytes fed, whether the end was fed, and the pictures given, of which the newest is the first
pub record Stream : Type 0 where
  pub text : List ℕ
  pub ended : Bool
  pub decoded : List Decoded

abbrev pub no_stream : Stream
no_stream = record { text = []; ended = false; decoded = [] }

abbrev pub streamed : Stream → List ℕ → Stream
streamed stream [] = record stream { ended = true }
streamed stream (byte ∷ bytes) = record stream { text = stream.text ++ byte ∷ bytes }

abbrev pub showing : Stream → Decoded → Stream
showing stream one = record stream { decoded = one ∷ stream.decoded }

-- Bytes may be fed: the end wasn't, and with them there are 2^30 at most.
pub record MayFeed (stream : Stream) (bytes : List ℕ) : Type 0 where
  pub not_ended : stream.ended ≡ false
  pub room : length (stream.text ++ bytes) ≤ 1073741824

-- the acceptor's past
abbrev pub past_of : Stream → Past
past_of stream = record { text = stream.text; ended = stream.ended; given = pictures_in stream.decoded; outcome = Some true }

-- It is the picture of the access unit whose turn is next.
pub record IsNextOne (stream : Stream) (one : Decoded) : Type 0 where
  pub front : List AccessUnit
  pub au : AccessUnit
  pub settled : IsSettled stream.text stream.ended front au
  pub before : AreDecoded front stream.decoded
  pub decoded : IsAcceptedPicture stream.decoded au one
