-- Which way a course stands for. Callers need only StandsFor and IsAnswered; the rest says how its private fields lie.
use Rattle.std.specs.Prelude.{◌≡◌, ℕ, ◌+◌, ◌<◌, ◌≤◌, ◌⊎◌, Bool, true, false, List, [], ◌∷◌, ◌++◌, length, flat_map, Option, Some, None, option_to_list, ℤ}
use Rattle.std.specs.List.{AllByRecursion}
use Rattle.std.specs.Option.{is_some}
use Rattle.clock_script.specs.Script.{IsLegal}
use Rattle.access_units.specs.AccessUnits.{AccessUnit}
use Rattle.access_units.specs.Acceptors.{IsNext, IsSettled, Past, giving}
use Rattle.access_units.specs.Depth.{depth_of}
use Rattle.access_units.specs.Pictures.{ArePictures, Picture, ordered, periods}
use Rattle.access_units.specs.Standing as acceptor
use Rattle.access_units.specs.Stands.{HasDepth}
use Rattle.access_units.specs.declared.acceptor.Acceptor.{Acceptor}
use Rattle.accepted_pictures.specs.Files.{Decoded, pictures_in}
use Rattle.accepted_pictures.specs.Streams.{Stream, past_of}
use Rattle.output_order.specs.OutputOrder as order
use Rattle.output_order.specs.Waiting as waiting
use Rattle.output_order.specs.declared.waiting.Waiting.{Waiting}
use Rattle.vd_plane.specs.declared.picture.Picture as samples
use Rattle.driver_model.specs.ShownPictures.{ShownPicture, shown_from, shown_pictures}
use Rattle.player_laws.specs.Shown.{settled_from}
use Rattle.frame_pacer.specs.Paced.{IsPaced, no_time, promised}
use Rattle.frame_pacer.specs.declared.pacer.Pacer.{Pacer}
use Rattle.stream_calls.specs.OutputPictures.{picture_at}
use Rattle.stream_calls.specs.StreamCalls as calls
use Rattle.stream_course.specs.Way.{AreTrue, HasEnded, IsTrue, IsTurn, Way}
use Rattle.stream_course.specs.declared.course.Course.{Course}
use Rattle.stream_course.specs.declared.course.Ending.{Ending}
use Rattle.stream_course.specs.declared.course.Place.{Place}
use Rattle.stream_course.specs.declared.course.Turn.{Turn}

-- ---- the file

-- The bytes settle the pictures.
abbrev pub AreSettled : Stream → Type 0
AreSettled stream =
    (stream.decoded ≡ [])
    ⊎ ((front : List AccessUnit) × (au : AccessUnit) × IsSettled stream.text stream.ended front au
    × ArePictures (au ∷ front) (pictures_in stream.decoded))

-- so many bytes, and so many pictures, which they settle
pub record HasRead (bytes pictures : ℕ) (stream : Stream) : Type 0 where
  pub fed : bytes ≡ length stream.text
  pub short : length stream.text ≤ 1073741824
  pub decoded : pictures ≡ length stream.decoded
  pub few : length stream.decoded ≤ 7000000
  pub settled : AreSettled stream

-- what is kept of the picture that was given
abbrev pub place_of : ℤ → Bool → ℕ → Option Place
place_of poc period depth = Some (record { poc = poc; period = period; depth = depth })

-- The acceptor gave the picture, which isn't settled.
pub record IsUnsettled (a : Acceptor) (kept : Option Place) (stream : Stream) (picture : Picture) : Type 0 where
  pub stands : acceptor.StandsFor a (giving (past_of stream) picture)
  pub next : IsNext (past_of stream) picture
  pub small : depth_of picture.sps ≤ 16
  pub place : kept ≡ place_of picture.begun.poc picture.begun.period (depth_of picture.sps)

-- The acceptor was fed this. It isn't asked any more.
pub record IsLeft (a : Acceptor) (reason : Ending) (stream : Stream) (failed : Option Picture) : Type 0 where
  pub past : Past
  pub stands : acceptor.StandsFor a past
  pub text : past.text ≡ stream.text
  pub ended : past.ended ≡ stream.ended
  pub has_ended : AreTrue stream failed → HasEnded reason stream

-- where the acceptor stands
abbrev pub IsAt : Acceptor → Option Place → Option Ending → Stream → (given failed : Option Picture) → Type 0
IsAt a place (Some reason) stream (Some picture) failed = ⊥
IsAt a place (Some reason) stream None failed = IsLeft a reason stream failed
IsAt a place None stream (Some picture) failed = IsUnsettled a place stream picture
IsAt a place None stream None failed = acceptor.StandsFor a (past_of stream)

-- ---- the output order

-- The waiting list has these pictures.
pub record Waits (w : Waiting) (decoded : List Decoded) (h : order.History) : Type 0 where
  pub stands : waiting.StandsFor w h
  pub pushed : h.pushed ≡ ordered (pictures_in decoded)
  pub period : h.period ≡ periods (pictures_in decoded)
  pub depth : HasDepth h (pictures_in decoded)

-- Where none is kept that came out last, none came out, or all did.
abbrev pub IsSilent : Way → order.History → List ℕ → Type 0
IsSilent way h coming =
    ((way.told ≡ []) × (way.promised ≡ 0))
    ⊎ ((h.ended ≡ true) × (order.has_settled h ≡ false) × (coming ≡ []))

-- ---- times

-- So many pictures came out.
pub record IsPacedBy (pacer : Pacer) (of : calls.Stream) (count : ℕ) : Type 0 where
  pub streams : ℕ
  pub legal : IsLegal streams of.script
  pub paced : IsPaced pacer of.script of.number of.period count

-- where so many came out there are as many promises at most, and a last one
pub record ArePromises (of : calls.Stream) (count time promises : ℕ) : Type 0 where
  pub fits : time ≤ no_time
  pub most : promises ≤ count + 1
  pub before_last : time < no_time → promises ≤ count
  pub before_tick : time < no_time → time < promised of.script of.number of.period count → promises + 1 ≤ count

-- what is shown of these pictures: where one is kept, it stands behind them
abbrev pub shown_before : calls.Stream → Option ℕ → List samples.Picture → List (ShownPicture samples.Picture)
shown_before of None pictures = shown_pictures of.script of.number of.period pictures
shown_before of (Some last) pictures = settled_from of.script of.number of.period 0 pictures

-- The one that is kept and all behind it are shown at this time or later.
abbrev pub IsKept : calls.Stream → Option ℕ → (count time : ℕ) → Type 0
IsKept of None count time = Unit {0}
IsKept of (Some last) count time =
    (pictures : List samples.Picture)
    → AllByRecursion (λ (one : ShownPicture samples.Picture). time ≤ one.time)
    (shown_from of.script of.number of.period count pictures)

-- ---- the course

-- those that came out
abbrev pub those_out : Way → Option ℕ → List ℕ
those_out way last = way.told ++ option_to_list last

-- The course stands for the way. This happened in the output order, where these came out that the course doesn't count
-- yet.
pub record Stands (course : Course) (of : calls.Stream) (way : Way) (h : order.History) (coming : List ℕ) : Type 0 where
  pub read : HasRead course.fed course.decoded way.fed
  pub at : IsAt course.acceptor course.unsettled course.ending way.fed way.given way.failed
  pub failed : is_some way.failed ≡ true → is_some course.ending ≡ true
  pub waits : Waits course.waiting way.fed.decoded h
  pub ended : h.ended ≡ is_some course.ending
  pub calm : is_some way.given ≡ true → order.has_settled h ≡ false
  pub out : h.out ≡ those_out way course.last ++ coming
  pub silent : course.last ≡ None → IsSilent way h coming
  pub paced : IsPacedBy course.pacer of (length (those_out way course.last))
  pub promised : course.promised ≡ way.promised
  pub promises : ArePromises of (length (those_out way course.last)) way.promised way.promises
  pub kept : IsKept of course.last (length way.told) way.promised
  pub shown : way.shown ≡ shown_before of course.last (flat_map (picture_at way.fed.decoded) way.told)

pub record StandsFor (course : Course) (of : calls.Stream) (way : Way) : Type 0 where
  pub history : order.History
  pub stands : Stands course of way history []

-- It is a turn, and the course stands for the way behind it.
pub record IsAnswered (course : Course) (of : calls.Stream) (way : Way) (turn : Turn) : Type 0 where
  pub after : Way
  pub is : IsTurn of way turn after
  pub stands : StandsFor course of after

-- ---- within a turn

-- A picture has just come out.
pub record HasCome (course : Course) (of : calls.Stream) (way : Way) (number : ℕ) : Type 0 where
  pub history : order.History
  pub stands : Stands course of way history (number ∷ [])

-- None comes out any more.
pub record IsOut (course : Course) (of : calls.Stream) (way : Way) (reason : Ending) : Type 0 where
  pub history : order.History
  pub stands : Stands course of way history []
  pub none : order.has_settled history ≡ false
  pub ending : course.ending ≡ Some reason
  pub not_given : way.given ≡ None

-- No further picture is decoded.
pub record IsStopped (course : Course) (of : calls.Stream) (way : Way) (reason : Ending) : Type 0 where
  pub history : order.History
  pub stands : Stands course of way history []
  pub none : order.has_settled history ≡ false
  pub going : course.ending ≡ None
  pub not_given : way.given ≡ None
  pub has_ended : IsTrue way → HasEnded reason way.fed
