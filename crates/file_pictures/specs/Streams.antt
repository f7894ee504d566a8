-- What a decoder of a file stands for, and what it answers.
use Rattle.std.specs.Prelude.{◌≡◌, ℕ, ◌≤◌, true, false, List, [], ◌∷◌, ◌⊎◌, All, Option, Some, None}
use Rattle.std.specs.Arc.{arc_value}
use Rattle.std.specs.List.{find}
use Rattle.std.specs.Option.{option_map}
use Rattle.cb_types.specs.declared.size.SizeMbs.{SizeMbs}
use Rattle.vd_plane.specs.declared.picture.Picture as samples
use Rattle.picture_buffer.specs.Buffers as buffers
use Rattle.picture_buffer.specs.declared.buffer.PictureBuffer.{PictureBuffer}
use Rattle.access_units.specs.Acceptors.{IsHungry, IsNext, giving, settling}
use Rattle.access_units.specs.Depth.{depth_of}
use Rattle.access_units.specs.Pictures.{Picture, has_number, size_in}
use Rattle.access_units.specs.Sequences.{sequence_of}
use Rattle.access_units.specs.Standing as acceptor
use Rattle.accepted_pictures.specs.Files.{AreAllWhole, Decoded, IsReadTo, IsReadWhole, IsWholeBehind, has_own_number, pictures_in}
use Rattle.accepted_pictures.specs.Streams.{IsNextOne, MayFeed, Stream, past_of, showing, streamed}
use Rattle.file_pictures.specs.declared.stream_decoder.DecodedPicture.{DecodedPicture}
use Rattle.file_pictures.specs.declared.stream_decoder.Step.{Step}
use Rattle.file_pictures.specs.declared.stream_decoder.Step.TheVariants as step
use Rattle.file_pictures.specs.declared.stream_decoder.StreamDecoder.{StreamDecoder}

-- The samples of the newest picture with this own number.
abbrev pub newest_of : List Decoded → ℕ → Option samples.Picture
newest_of decoded number = option_map (λ (one : Decoded). one.samples) (find (has_own_number number) decoded)

abbrev pub HaveSize : SizeMbs → List Picture → Type 0
HaveSize size pictures = All (λ (picture : Picture). size_in picture ≡ size) pictures

-- The buffer has, by the own numbers of these pictures of a coded video sequence, the newest samples with those numbers. They
-- have its size.
pub record Keeps (buffer : PictureBuffer) (decoded : List Decoded) (sequence : List Picture) : Type 0 where
  pub kept : ℕ → samples.Picture
  pub stands : buffers.StandsFor buffer kept
  pub sized : HaveSize (buffers.size_of buffer) sequence
  pub newest : (number : ℕ) → has_number number sequence ≡ true → newest_of decoded number ≡ Some (kept number)

-- where there is no buffer there are no pictures
abbrev pub IsKept : Option PictureBuffer → List Decoded → List Picture → Type 0
IsKept None decoded sequence = sequence ≡ []
IsKept (Some buffer) decoded sequence = Keeps buffer decoded sequence

-- the pictures of the newest one's coded video sequence
abbrev pub newest_sequence : List Decoded → List Picture
newest_sequence decoded = sequence_of (pictures_in decoded)

-- The acceptor stands for what was fed and given, and the buffer keeps what later pictures may refer to.
pub record GoesOn (decoder : StreamDecoder) (stream : Stream) : Type 0 where
  pub acceptor : acceptor.StandsFor decoder.acceptor (past_of stream)
  pub kept : IsKept decoder.buffer stream.decoded (newest_sequence stream.decoded)

-- The slices of the picture whose turn is next come to no whole picture, and the acceptor stands for that too. Nothing is decoded
-- any more, and no buffer is needed.
pub record IsBroken (decoder : StreamDecoder) (stream : Stream) : Type 0 where
  pub picture : Picture
  pub next : IsNext (past_of stream) picture
  pub none : (samples : samples.Picture) → ¬ IsWholeBehind stream.decoded (record { picture = picture; samples = samples })
  pub acceptor : acceptor.StandsFor decoder.acceptor (settling (giving (past_of stream) picture) false)

-- The decoder stands for what was fed to it and given by it.
pub record StandsFor (decoder : StreamDecoder) (stream : Stream) : Type 0 where
  pub whole : AreAllWhole stream.decoded
  pub state : GoesOn decoder stream ⊎ IsBroken decoder stream

-- ---- the answers

-- what is handed out of a picture
pub record Shows (shown : DecodedPicture) (one : Decoded) : Type 0 where
  pub offset : shown.offset ≡ one.picture.offset
  pub poc : shown.poc ≡ one.picture.begun.poc
  pub period : shown.period ≡ one.picture.begun.period
  pub depth : shown.depth ≡ depth_of one.picture.sps
  pub samples : arc_value shown.samples ≡ one.samples

-- What is answered, and what the decoder stands for behind it.
abbrev pub IsStep : Stream → Step → StreamDecoder → Type 0
IsStep stream step.Hungry decoder = IsHungry (past_of stream) × StandsFor decoder stream
IsStep stream (step.Picture shown) decoder = (one : Decoded) × IsNextOne stream one × Shows shown one × StandsFor decoder (showing stream one)
IsStep stream step.End decoder = (stream.ended ≡ true) × IsReadWhole stream.text stream.decoded × StandsFor decoder stream
IsStep stream (step.Refused offset large) decoder = IsReadTo stream.text stream.ended stream.decoded (record { offset = offset; large = large }) × StandsFor decoder stream

-- These pieces are fed one after the other, each of them where bytes may be fed, and nothing else happens.
abbrev pub IsStreamedOn : Stream → List (List ℕ) → Stream → Type 0
IsStreamedOn stream [] later = later ≡ stream
IsStreamedOn stream (bytes ∷ pieces) later = MayFeed stream bytes × IsStreamedOn (streamed stream bytes) pieces later

-- Whatever is fed, a decoder that stands for it may answer this, and nothing else.
abbrev pub Stays : Stream → Step → Type 0
Stays stream answer =
    (pieces : List (List ℕ)) (later : Stream) → IsStreamedOn stream pieces later
    → ((decoder : StreamDecoder) → StandsFor decoder later → IsStep later answer decoder)
    × ((other : Step) (decoder : StreamDecoder) → IsStep later other decoder → other ≡ answer)

-- The end and a refusal are the last answers.
abbrev pub StaysIfLast : Stream → Step → Type 0
StaysIfLast stream step.Hungry = Unit {0}
StaysIfLast stream (step.Picture shown) = Unit {0}
StaysIfLast stream answer = Stays stream answer

-- No more pictures may wait behind a picture than a waiting list takes.
abbrev pub HasSmallDepth : Step → Type 0
HasSmallDepth (step.Picture shown) = shown.depth ≤ 16
HasSmallDepth answer = Unit {0}
