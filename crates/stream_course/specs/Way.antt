-- What has happened on a stream's course, and what its turns are.
use Rattle.std.specs.Prelude.{◌≡◌, ℕ, ◌+◌, ◌<◌, ◌≤◌, ◌==◌, true, false, List, [], ◌∷◌, ◌++◌, length, Option, Some, None}
use Rattle.std.specs.List.{list_any}
use Rattle.access_units.specs.Acceptors.{IsDecodable, IsHungry, IsNext, Shows}
use Rattle.access_units.specs.Pictures.{Picture, ordered}
use Rattle.access_units.specs.declared.acceptor.Unsettled.{Unsettled}
use Rattle.accepted_pictures.specs.Files.{AreAllWhole, Decoded, IsReadTo, IsReadWhole, IsWholeBehind, pictures_in}
use Rattle.accepted_pictures.specs.Streams.{Stream, no_stream, past_of, showing, streamed}
use Rattle.output_order.specs.OutputOrder as order
use Rattle.vd_plane.specs.declared.picture.Picture as samples
use Rattle.driver_model.specs.ShownPictures.{ShownPicture}
use Rattle.frame_pacer.specs.Paced.{no_time, shown_if}
use Rattle.stream_calls.specs.OutputPictures.{numbers_in_order, picture_at}
use Rattle.stream_calls.specs.StreamCalls as calls
use Rattle.stream_course.specs.declared.course.Ending.{Ending}
use Rattle.stream_course.specs.declared.course.Ending.TheVariants as ending
use Rattle.stream_course.specs.declared.course.Turn.{Turn}
use Rattle.stream_course.specs.declared.course.Turn.TheVariants as turn

pub record Way : Type 0 where
  -- what was fed of the stream's file, and decoded of its pictures
  pub fed : Stream
  -- the picture that was given to be decoded, until it is settled
  pub given : Option Picture
  -- the one that came to no whole picture
  pub failed : Option Picture
  -- the numbers of the pictures of which was said whether they are shown, in the order in which they came out
  pub told : List ℕ
  -- those of them that are shown
  pub shown : List (ShownPicture samples.Picture)
  -- the time before which nothing further is shown, and how many such times were promised
  pub promised : ℕ
  pub promises : ℕ

-- Nothing has happened.
abbrev pub at_start : Way
at_start =
    record { fed = no_stream; given = None; failed = None; told = []; shown = []; promised = 0; promises = 0 }

-- ---- what happens

-- Bytes are fed; none are the end.
abbrev pub fed_on : Way → List ℕ → Way
fed_on way bytes = record way { fed = streamed way.fed bytes }

-- The picture is to be decoded.
abbrev pub with_given : Way → Picture → Way
with_given way picture = record way { given = Some picture }

-- It was decoded so,
abbrev pub with_decoded : Way → Decoded → Way
with_decoded way one = record way { fed = showing way.fed one; given = None }

-- or came to no whole one.
abbrev pub with_failure : Way → Picture → Way
with_failure way picture = record way { given = None; failed = Some picture }

-- The picture of this number is shown at this time, or not at all.
abbrev pub with_told : Way → ℕ → Option ℕ → samples.Picture → Way
with_told way number time picture =
    record way { told = way.told ++ number ∷ []; shown = way.shown ++ shown_if time picture }

-- Nothing further is shown before this time.
abbrev pub with_promise : Way → ℕ → Way
with_promise way time = record way { promised = time; promises = way.promises + 1 }

-- ---- whether what was said of decoded pictures is true

-- The picture's slices come to no whole picture behind these.
abbrev pub ComesToNone : List Decoded → Picture → Type 0
ComesToNone before picture =
    (any : samples.Picture) → ¬ IsWholeBehind before (record { picture = picture; samples = any })

-- Each picture that was decoded is whole, with its samples, and the one that came to none doesn't come to one.
pub record AreTrue (stream : Stream) (failed : Option Picture) : Type 0 where
  pub whole : AreAllWhole stream.decoded
  pub failure : (picture : Picture) → failed ≡ Some picture → ComesToNone stream.decoded picture

abbrev pub IsTrue : Way → Type 0
IsTrue way = AreTrue way.fed way.failed

-- ---- turns

-- Of the pictures that were decoded all but 17 were told: 16 wait at most, and the last one that came out isn't told.
abbrev pub HasRoom : Way → Type 0
HasRoom way = length way.fed.decoded ≤ length way.told + 17

-- The picture is the next one of the file, and this is handed out of it.
pub record IsToBeDecoded (way : Way) (unsettled : Unsettled) (picture : Picture) : Type 0 where
  pub next : IsNext (past_of way.fed) picture
  pub shows : Shows unsettled picture
  pub decodable : IsDecodable (past_of way.fed) unsettled
  pub going : way.failed ≡ None
  pub room : HasRoom way

-- The picture of this number came out next behind those told; no earlier turn told it.
pub record ComesOut (way : Way) (number : ℕ) (picture : samples.Picture) : Type 0 where
  pub next : order.IsFront (way.told ++ number ∷ []) (ordered (pictures_in way.fed.decoded))
  pub decoded : number < length way.fed.decoded
  pub once : list_any (λ (earlier : ℕ). earlier == number) way.told ≡ false
  pub is : picture_at way.fed.decoded number ≡ picture ∷ []

-- The time is later than each that was promised. For each picture that came out there is one promise at most, and a
-- last one.
pub record IsPromised (way : Way) (time : ℕ) : Type 0 where
  pub later : way.promised < time
  pub few : way.promises + 1 ≤ length way.told + 2

-- why no further picture is decoded
abbrev pub HasEnded : Ending → Stream → Type 0
HasEnded ending.Whole stream = (stream.ended ≡ true) × IsReadWhole stream.text stream.decoded
HasEnded (ending.Refused offset large) stream =
    IsReadTo stream.text stream.ended stream.decoded (record { offset = offset; large = large })

-- No further picture is decoded, each was told, and those are shown that are to be shown.
pub record IsOver (of : calls.Stream) (way : Way) (reason : Ending) : Type 0 where
  pub ended : IsTrue way → HasEnded reason way.fed
  pub told : way.told ≡ numbers_in_order way.fed.decoded
  pub all : length way.told ≡ length way.fed.decoded
  pub shown : way.shown ≡ calls.shown_of of way.fed.decoded
  pub promised : way.promised ≡ no_time

-- What the turn is, and the way behind it.
abbrev pub IsTurn : calls.Stream → Way → Turn → Way → Type 0
IsTurn of way turn.Hungry after = (after ≡ way) × IsHungry (past_of way.fed) × HasRoom way
IsTurn of way (turn.Decode unsettled) after =
    (picture : Picture) × (after ≡ with_given way picture) × IsToBeDecoded way unsettled picture
IsTurn of way (turn.Out number time) after =
    (picture : samples.Picture) × (after ≡ with_told way number time picture) × ComesOut way number picture
IsTurn of way (turn.Promise time) after = (after ≡ with_promise way time) × IsPromised way time
IsTurn of way (turn.Over reason) after = (after ≡ way) × IsOver of way reason
