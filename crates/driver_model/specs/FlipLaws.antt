-- What follows of the flips that a script shows.
use Rattle.std.specs.Prelude.{◌≡◌, ℕ, List, [], slice_get, Some, None}
use Rattle.clock_script.specs.declared.script.ScriptLine.{ScriptLine}
use Rattle.vd_plane.specs.declared.picture.Picture.{Picture}
use Rattle.driver_model.specs.FlipText.{StreamFlip, text_of}
use Rattle.driver_model.specs.ScriptFlips.{AreFlipsOf, IsTextOfScript, flips_of_stream}
use Rattle.driver_model.specs.ShownPictures.{ShownPicture, shown_pictures}

-- A stream's shown pictures have one list of flips at most.
abbrev pub FlipsAreOne : Type 0
FlipsAreOne =
    (stream : ℕ) (shown : List (ShownPicture Picture)) (one other : List StreamFlip)
    → AreFlipsOf stream shown one → AreFlipsOf stream shown other → one ≡ other

-- What a script shows of the streams' pictures has one text at most.
abbrev pub ScriptsHaveOneText : Type 0
ScriptsHaveOneText =
    (script : List ScriptLine) (period : ℕ) (streams : List (List Picture)) (one other : List ℕ)
    → IsTextOfScript script period streams one → IsTextOfScript script period streams other → one ≡ other

-- The text of flips is settled by each stream's flips in their order, whatever the order in which the streams take turns.
abbrev pub StreamsSettleTheText : Type 0
StreamsSettleTheText =
    (one other : List StreamFlip)
    → ((stream : ℕ) → flips_of_stream stream one ≡ flips_of_stream stream other)
    → text_of one ≡ text_of other

-- Flips have the text of what a script shows, where each stream's are those of its shown pictures, and there are no others.
abbrev pub StreamsShowTheScript : Type 0
StreamsShowTheScript =
    (script : List ScriptLine) (period : ℕ) (streams : List (List Picture)) (flips : List StreamFlip)
    → ((stream : ℕ) (pictures : List Picture) → slice_get streams stream ≡ Some pictures
    → AreFlipsOf stream (shown_pictures script stream period pictures) (flips_of_stream stream flips))
    → ((stream : ℕ) → slice_get streams stream ≡ None → flips_of_stream stream flips ≡ [])
    → IsTextOfScript script period streams (text_of flips)
