-- How far a text is looked at and taken in, and where more of it is wanted.
use Rattle.std.specs.Prelude.{◌≡◌, ◌≢◌, ℕ, ◌+◌, ◌⊎◌, Bool, true, List, [], length, Option, Some, None}
use Rattle.access_units.specs.AccessUnits.{AccessUnit}
use Rattle.access_units.specs.Contents.{Told}
use Rattle.access_units.specs.Standing.{Reads}
use Rattle.access_units.specs.declared.acceptor.Acceptor.{Acceptor}
use Rattle.access_units.specs.declared.hand.InHand.{InHand}

-- No access unit is in hand but what a text may end with: units without a slice, of which none is refused.
abbrev pub HasTail : Option InHand → Type 0
HasTail None = Unit {0}
HasTail (Some held) = (held.refused ≡ None) × (held.slices.items ≡ [])

-- All that was fed is looked at and taken in.
pub record IsThrough (a : Acceptor) : Type 0 where
  pub found : a.found ≡ None
  pub opened : a.opened ≡ None
  pub all : (a.is_over ≡ true) ⊎ (a.looked ≡ a.from + length a.bytes.items)
  pub end : a.ended ≡ true → a.is_over ≡ true

-- Another access unit is opened behind the one in hand, or all is looked at.
abbrev pub IsLookedThrough : Acceptor → Type 0
IsLookedThrough a = ((a.opened ≢ None) × (a.found ≡ None)) ⊎ IsThrough a

-- All that was fed is looked at and taken in, and no access unit is settled that counts.
pub record Wants (a : Acceptor) : Type 0 where
  pub found : a.found ≡ None
  pub opened : a.opened ≡ None
  pub all : (a.is_over ≡ true) ⊎ (a.looked ≡ a.from + length a.bytes.items)
  pub end : a.ended ≡ true → a.is_over ≡ true
  pub tail : a.is_over ≡ true → HasTail a.hand

-- The acceptor reads the text on, with the same access units before the one in hand.
pub record ReadsFurther (a : Acceptor) (text : List ℕ) (ended : Bool) (front : List AccessUnit) : Type 0 where
  pub told : List Told
  pub broken : Option ℕ
  pub opened : List AccessUnit
  pub hand : List AccessUnit
  pub reads : Reads a text ended told broken opened hand front
