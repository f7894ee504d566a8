-- That what a unit of a file tells exists, and what is decided of an access unit.
use Rattle.std.specs.Prelude.{ℕ, List}
use Rattle.access_units.specs.AccessUnits.{AccessUnit}
use Rattle.access_units.specs.Contents.{Tells}
use Rattle.access_units.specs.Pictures.{IsPicture, Picture}
use Rattle.access_units.specs.Sets.{Sets}
use Rattle.access_units.specs.declared.content.Content.{Content}
use Rattle.finite.specs.Decided.{Decided}

-- Each unit tells something, whatever sets are known.
abbrev pub UnitsTellSomething : Type 0
UnitsTellSomething = (sets : Sets) (unit : List ℕ) → (content : Content) × Tells sets unit content

-- Behind any pictures an access unit is one picture that this decoder takes, what its slices come to apart, or is none.
abbrev pub PicturesAreDecided : Type 0
PicturesAreDecided = (before : List Picture) (au : AccessUnit) → Decided ((picture : Picture) × IsPicture before au picture)
