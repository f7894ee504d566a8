-- Which text a finder stands for. Callers need only StandsFor and HasRoom: what they know of a finder comes from its calls.
-- The rest says how its private phase lies in the text.
use Rattle.std.specs.Prelude.{◌≡◌, ℕ, ◌+◌, ◌^◌, ◌≤◌, ◌⊎◌, List, [], ◌∷◌, ◌++◌, length, replicate, min, Option, Some, None}
use Rattle.std.specs.List.{AllByRecursion}
use Rattle.nal_units.specs.Units.{Units, Part, IsPart, IsUnit, stream, places, end_of, fewest}
use Rattle.nal_units.specs.Settled.{unit_in, broken_in}
use Rattle.nal_units.specs.declared.finder.Finder.{Finder}
use Rattle.nal_units.specs.declared.finder.Found.{Found}
use Rattle.nal_units.specs.declared.finder.Found.TheVariants as found
use Rattle.nal_units.specs.declared.finder.Phase.{Phase}
use Rattle.nal_units.specs.declared.finder.Phase.TheVariants as phase

-- The text is whole parts, and then zero bytes: as many as end what stands before.
pub record IsOutside (text : List ℕ) (settled : List (ℕ × ℕ)) (zeros : ℕ) : Type 0 where
  pub parts : List Part
  pub run : ℕ
  pub each : AllByRecursion IsPart parts
  pub spelled : text ≡ stream parts (replicate run 0)
  pub placed : settled ≡ places 0 parts
  pub closed : fewest parts ≤ run
  pub counted : zeros ≡ min run 2

-- Behind the parts the text has a start code, the bytes of a unit, if any, and up to two zero bytes that may not be its own.
pub record IsInside (text : List ℕ) (settled : List (ℕ × ℕ)) (start zeros : ℕ) : Type 0 where
  pub parts : List Part
  pub run : ℕ
  pub unit : List ℕ
  pub each : AllByRecursion IsPart parts
  pub spelled : text ≡ stream parts (replicate run 0 ++ 1 ∷ (unit ++ replicate zeros 0))
  pub placed : settled ≡ places 0 parts
  pub enough : 2 ≤ run
  pub begun : start ≡ end_of 0 parts + run + 1
  pub content : (unit ≡ []) ⊎ IsUnit unit
  pub few : zeros ≤ 2

abbrev pub IsPhase : Phase → List ℕ → List (ℕ × ℕ) → Type 0
IsPhase (phase.Outside zeros) text settled = IsOutside text settled zeros
IsPhase (phase.Inside start zeros) text settled = IsInside text settled start zeros
IsPhase (phase.Broken at) text settled = (more : List ℕ) → Units (text ++ more) settled (Some at)

-- The text was pushed, which settles these units, and finish wasn't called.
pub record IsAt (finder : Finder) (text : List ℕ) (settled : List (ℕ × ℕ)) : Type 0 where
  pub counted : finder.position ≡ length text
  pub phase : IsPhase finder.phase text settled

-- The finder stands for the text: it was pushed, and finish wasn't called.
abbrev pub StandsFor : Finder → List ℕ → Type 0
StandsFor finder text = (settled : List (ℕ × ℕ)) × IsAt finder text settled

-- The finder stands for a text that stays within 2 ^ 63 bytes with so many more.
abbrev pub HasRoom : Finder → ℕ → Type 0
HasRoom finder more = (text : List ℕ) × StandsFor finder text × (length text + more ≤ 2 ^ 63)

-- The phase tells of the broken place.
abbrev pub broken_of : Phase → Option ℕ
broken_of (phase.Outside zeros) = None
broken_of (phase.Inside start zeros) = None
broken_of (phase.Broken at) = Some at

-- A unit that a byte finds, with so many bytes before it, ended two bytes before that one.
abbrev pub IsThird : Found → ℕ → Type 0
IsThird found.Nothing before = Unit {0}
IsThird (found.Unit start end) before = end + 2 ≡ before
IsThird (found.Broken at) before = Unit {0}

-- From a text that settles these units a byte leads to this phase, and finds this.
pub record Advances (text : List ℕ) (settled : List (ℕ × ℕ)) (byte : ℕ) (next : Phase) (found : Found) : Type 0 where
  pub phase : IsPhase next (text ++ byte ∷ []) (settled ++ unit_in found)
  pub broken : broken_in found ≡ broken_of next
  pub third : IsThird found (length text)
