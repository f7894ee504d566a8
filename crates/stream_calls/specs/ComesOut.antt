-- What came out of the first pictures of a file comes out first of all its pictures, and so settles what is shown.
use Rattle.std.specs.Prelude.{◌≡◌, ◌≢◌, ℕ, ◌<◌, true, false, List, [], ◌∷◌, ◌++◌, length, flat_map, Option, Some}
use Rattle.access_units.specs.AccessUnits.{AccessUnit}
use Rattle.access_units.specs.Depth.{depth_of}
use Rattle.access_units.specs.Pictures.{ArePictures, IsPicture, ordered, ordered_behind, periods}
use Rattle.access_units.specs.Stands.{HasDepth}
use Rattle.output_order.specs.OutputOrder as order
use Rattle.output_order.specs.OutputOrder.{History, arriving, ending, has_settled, is_late, popping, pushing}
use Rattle.output_order.specs.Waiting.{StandsFor}
use Rattle.output_order.specs.declared.waiting.Waiting.{Waiting}
use Rattle.vd_plane.specs.declared.picture.Picture.{Picture}
use Rattle.driver_model.specs.ShownPictures.{shown_at, shown_from, tick_in_time}
use Rattle.accepted_pictures.specs.Files.{Decoded, Fault, HasPictures, pictures_in}
use Rattle.player_laws.specs.Shown.{settled_at, settled_from}
use Rattle.stream_calls.specs.OutputPictures.{in_output_order, picture_at}
use Rattle.stream_calls.specs.StreamCalls.{Stream, shown_of}

-- the pictures of these numbers
abbrev pub pictures_of : List Decoded → List ℕ → List Picture
pictures_of decoded numbers = flat_map (picture_at decoded) numbers

-- Each of these, of which the newest is the first, is the picture of some access unit behind those before it.
abbrev pub AreAccepted : List Decoded → Type 0
AreAccepted decoded = (units : List AccessUnit) × ArePictures units (pictures_in decoded)

abbrev pub PicturesAreAccepted : Type 0
PicturesAreAccepted =
    (file : List ℕ) (accepted : List Decoded) (fault : Option Fault)
    → HasPictures file accepted fault
    → AreAccepted accepted

-- ---- pushes

-- These pictures were pushed one after the other.
pub record ArePushed (decoded : List Decoded) (h : History) : Type 0 where
  pub pushed : h.pushed ≡ ordered (pictures_in decoded)
  pub period : h.period ≡ periods (pictures_in decoded)
  pub depth : HasDepth h (pictures_in decoded)

-- the picture as it arrives in the output order
abbrev pub arriving_behind : List Decoded → Decoded → order.Picture
arriving_behind decoded one = ordered_behind (pictures_in decoded) one.picture.begun

-- And then this one.
abbrev pub pushed_by : History → List Decoded → Decoded → History
pushed_by h decoded one = pushing h (arriving_behind decoded one) (depth_of one.picture.sps)

-- It may be pushed by its count, and isn't late.
pub record IsPushedBehind (h : History) (decoded : List Decoded) (one : Decoded) : Type 0 where
  pub arrives :
      arriving h (length decoded) one.picture.begun.poc one.picture.begun.period ≡ arriving_behind decoded one
  pub in_time : is_late (depth_of one.picture.sps) h.pushed (arriving_behind decoded one) ≡ false
  pub same_depth : one.picture.begun.period ≡ false → h.pushed ≢ [] → depth_of one.picture.sps ≡ h.depth
  pub pushed : ArePushed (one ∷ decoded) (pushed_by h decoded one)

abbrev pub AcceptedPicturesArePushed : Type 0
AcceptedPicturesArePushed =
    (decoded : List Decoded) (one : Decoded) (au : AccessUnit) (h : History)
    → ArePushed decoded h
    → IsPicture (pictures_in decoded) au one.picture
    → IsPushedBehind h decoded one

-- What comes out, and the end, leave that as it is.
abbrev pub PushedStayPushed : Type 0
PushedStayPushed =
    (decoded : List Decoded) (h : History) (number : Option ℕ)
    → ArePushed decoded h
    → ArePushed decoded (popping h number) × ArePushed decoded (ending h)

-- ---- numbers

-- A picture keeps its number, whichever follow.
abbrev pub PicturesKeepTheirNumbers : Type 0
PicturesKeepTheirNumbers =
    (decoded : List Decoded) (one : Decoded)
    → (picture_at (one ∷ decoded) (length decoded) ≡ one.samples ∷ [])
    × ((number : ℕ) → number < length decoded → picture_at (one ∷ decoded) number ≡ picture_at decoded number)

-- What came out stays the same behind a push.
abbrev pub PushesLeaveTheOut : Type 0
PushesLeaveTheOut =
    (w : Waiting) (h : History) (decoded : List Decoded) (one : Decoded)
    → StandsFor w h
    → ArePushed decoded h
    → pictures_of (one ∷ decoded) h.out ≡ pictures_of decoded h.out

-- The number is that of one of these pictures, and this picture comes behind those that came out before.
pub record IsNextOut (decoded : List Decoded) (out : List ℕ) (number : ℕ) : Type 0 where
  pub below : number < length decoded
  pub one : Picture
  pub there : picture_at decoded number ≡ one ∷ []
  pub behind : pictures_of decoded (out ++ number ∷ []) ≡ pictures_of decoded out ++ one ∷ []

-- So is each number that comes out.
abbrev pub PicturesComeOut : Type 0
PicturesComeOut =
    (w : Waiting) (h : History) (decoded : List Decoded) (number : ℕ)
    → StandsFor w (popping h (Some number))
    → ArePushed decoded h
    → IsNextOut decoded h.out number

-- ---- what came out is first

-- whichever pictures follow, before the end
abbrev pub WhatCameOutIsFirst : Type 0
WhatCameOutIsFirst =
    (w : Waiting) (h : History) (later decoded : List Decoded)
    → StandsFor w h
    → ArePushed decoded h
    → h.ended ≡ false
    → AreAccepted (later ++ decoded)
    → (rest : List Picture) × (in_output_order (later ++ decoded) ≡ pictures_of decoded h.out ++ rest)

-- of these pictures alone, behind the end too
abbrev pub WhatCameOutIsFirstOfThese : Type 0
WhatCameOutIsFirstOfThese =
    (w : Waiting) (h : History) (decoded : List Decoded)
    → StandsFor w h
    → ArePushed decoded h
    → (rest : List Picture) × (in_output_order decoded ≡ pictures_of decoded h.out ++ rest)

-- Behind the end all have come out where no more do.
abbrev pub AllComeOut : Type 0
AllComeOut =
    (w : Waiting) (h : History) (decoded : List Decoded)
    → StandsFor w h
    → ArePushed decoded h
    → h.ended ≡ true
    → has_settled h ≡ false
    → in_output_order decoded ≡ pictures_of decoded h.out

-- ---- what is shown is settled

-- the tick of the picture of this number, ahead of the stream's preemption
abbrev pub tick_of_number : Stream → ℕ → Option ℕ
tick_of_number stream number = tick_in_time stream.script stream.number stream.period number

-- What is shown begins with what is settled of all but the last one of the first pictures in order.
abbrev pub FirstPicturesAreSettled : Type 0
FirstPicturesAreSettled =
    (stream : Stream) (accepted : List Decoded) (front : List Picture) (one : Picture) (rest : List Picture)
    → in_output_order accepted ≡ (front ++ one ∷ []) ++ rest
    → shown_of stream accepted
    ≡ settled_from stream.script stream.number stream.period 0 front
    ++ shown_from stream.script stream.number stream.period (length front) (one ∷ rest)

-- So it begins with what is settled of all but the last one that came out, whichever pictures follow.
abbrev pub WhatCameOutIsSettled : Type 0
WhatCameOutIsSettled =
    (stream : Stream) (w : Waiting) (h : History) (later decoded : List Decoded) (front : List Picture) (one : Picture)
    → StandsFor w h
    → ArePushed decoded h
    → h.ended ≡ false
    → AreAccepted (later ++ decoded)
    → pictures_of decoded h.out ≡ front ++ one ∷ []
    → (rest : List Picture)
    × (shown_of stream (later ++ decoded)
    ≡ settled_from stream.script stream.number stream.period 0 front
    ++ shown_from stream.script stream.number stream.period (length front) (one ∷ rest))

-- With one more settled picture, what is shown of that one follows; and behind the last one nothing.
abbrev pub SettledPicturesGrow : Type 0
SettledPicturesGrow =
    (stream : Stream) (front : List Picture) (one : Picture)
    → settled_from stream.script stream.number stream.period 0 (front ++ one ∷ [])
    ≡ settled_from stream.script stream.number stream.period 0 front
    ++ settled_at stream.script stream.number stream.period (length front) (tick_of_number stream (length front)) one

abbrev pub LastPictureIsShown : Type 0
LastPictureIsShown =
    (stream : Stream) (number : ℕ) (one : Picture)
    → shown_from stream.script stream.number stream.period number (one ∷ [])
    ≡ shown_at stream.script stream.number stream.period number (tick_of_number stream number) one []
