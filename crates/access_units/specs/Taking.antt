-- How a unit is taken into an acceptor's access units.
use Rattle.std.specs.Prelude.{◌≡◌, ℕ, Bool, true, false, if◌then◌else◌, List, [], ◌∷◌, ◌++◌, Option, Some, None, IfSome, slice_range}
use Rattle.std.specs.Option.{is_some, option_or}
use Rattle.access_units.specs.AccessUnits.{AccessUnit, begins_another, unit_alone, with_unit}
use Rattle.access_units.specs.Contents.{Told}
use Rattle.access_units.specs.Hands.{Holds, IsOf, IsUnchanged}
use Rattle.access_units.specs.Known.{IsKnownTo}
use Rattle.access_units.specs.Sets.{Sets}
use Rattle.access_units.specs.Standing.{Reads}
use Rattle.access_units.specs.declared.acceptor.Acceptor.{Acceptor}
use Rattle.access_units.specs.declared.content.Content.{Content}
use Rattle.access_units.specs.declared.content.Content.TheVariants.{Slice}
use Rattle.access_units.specs.declared.hand.InHand.{InHand}
use Rattle.access_units.specs.declared.hand.NalUnit.{NalUnit}

-- the unit at a place of the text, which tells this
abbrev pub told_at : List ℕ → ℕ × ℕ → Content → Told
told_at text place content = record { place = place; bytes = slice_range text place.0 place.1; content = content }

-- the places of slices, with a unit of this content
abbrev pub with_place : Content → ℕ × ℕ → List (ℕ × ℕ) → List (ℕ × ℕ)
with_place (Slice named) place places = places ++ place ∷ []
with_place content place places = places

-- The access unit in hand has this unit more.
pub record HasMore (old new : InHand) (unit : NalUnit) : Type 0 where
  pub holds : (text : List ℕ) (au : AccessUnit) (told : Told) → Holds old text au → IsOf unit text told → Holds new text (with_unit au told)
  pub places : new.slices.items ≡ with_place unit.content (unit.start, unit.end) old.slices.items

-- It has this unit alone.
pub record IsAlone (new : InHand) (unit : NalUnit) : Type 0 where
  pub holds : (text : List ℕ) (told : Told) → IsOf unit text told → Holds new text (unit_alone told)
  pub places : new.slices.items ≡ with_place unit.content (unit.start, unit.end) []

-- The unit begins an access unit: the one in hand where there is none, or else the one opened behind it.
pub record Opens (old new : Acceptor) (unit : NalUnit) : Type 0 where
  pub held : InHand
  pub alone : IsAlone held unit
  pub hand : new.hand ≡ option_or old.hand (Some held)
  pub opened : new.opened ≡ (if is_some old.hand then Some held else old.opened)

-- The unit goes on with the access unit in hand.
pub record GoesOn (old new : Acceptor) (unit : NalUnit) : Type 0 where
  pub before : InHand
  pub after : InHand
  pub was : old.hand ≡ Some before
  pub hand : new.hand ≡ Some after
  pub opened : new.opened ≡ old.opened
  pub more : HasMore before after unit
  pub same : (text : List ℕ) (au : AccessUnit) (told : Told) → Holds before text au → IsOf unit text told → begins_another au told ≡ false

-- The unit begins another access unit, if one is in hand.
abbrev pub Begins : Option InHand → NalUnit → Type 0
Begins hand unit = IfSome hand (λ held. (text : List ℕ) (au : AccessUnit) (told : Told) → Holds held text au → IsOf unit text told → begins_another au told ≡ true)

abbrev pub IsUnchangedIn : Option InHand → Option InHand → Type 0
IsUnchangedIn None None = Unit {0}
IsUnchangedIn (Some old) (Some new) = IsUnchanged old new
IsUnchangedIn old new = ⊥

-- No unit was taken in.
pub record TakesNone (old new : Acceptor) : Type 0 where
  pub hand : IsUnchangedIn old.hand new.hand
  pub opened : new.opened ≡ old.opened
  pub known : (sets : Sets) → IsKnownTo old.known sets → IsKnownTo new.known sets

-- The acceptor reads some text.
pub record IsReading (a : Acceptor) : Type 0 where
  pub text : List ℕ
  pub ended : Bool
  pub told : List Told
  pub broken : Option ℕ
  pub opened : List AccessUnit
  pub hand : List AccessUnit
  pub front : List AccessUnit
  pub reads : Reads a text ended told broken opened hand front

-- It reads the text with one unit more.
pub record ReadsOn (a : Acceptor) (text : List ℕ) (ended : Bool) (told : List Told) (broken : Option ℕ) (front : List AccessUnit) : Type 0 where
  pub unit : Told
  pub opened : List AccessUnit
  pub hand : List AccessUnit
  pub reads : Reads a text ended (unit ∷ told) broken opened hand front
