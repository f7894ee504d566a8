-- The text of flips that are written one after the other.
use Rattle.std.specs.Prelude.{◌≡◌, false, List, [], ◌∷◌, ◌++◌, flat_map}
use Rattle.std.specs.List.{AllByRecursion}
use Rattle.driver_model.specs.FlipText.{StreamFlip, comes_before, flip_text, text_of}

-- none of these flips comes before this one
abbrev pub NoneBefore : StreamFlip → List StreamFlip → Type 0
NoneBefore one flips = AllByRecursion (λ other. comes_before other one ≡ false) flips

-- none of them comes before one that stands ahead of it
abbrev pub AreInOrder : List StreamFlip → Type 0
AreInOrder [] = Unit {0}
AreInOrder (one ∷ later) = NoneBefore one later × AreInOrder later

-- Flips that are in order have the text that they have one after the other.
abbrev pub OrderedFlipsAreWritten : Type 0
OrderedFlipsAreWritten = (flips : List StreamFlip) → AreInOrder flips → text_of flips ≡ flat_map flip_text flips

-- Of flips of which none comes before earlier ones, the text goes on behind that of those.
abbrev pub TextsGoOn : Type 0
TextsGoOn =
    (front more : List StreamFlip)
    → AllByRecursion (λ one. NoneBefore one more) front
    → text_of (front ++ more) ≡ text_of front ++ text_of more
