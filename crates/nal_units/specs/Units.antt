-- The NAL units of a byte stream (H.264, B.1.1). A text is a run of parts, each the zero bytes and the 01 of a start code
-- and a unit, and behind them some more zero bytes and a tail, which begins at the broken place, or is empty. So
--
--   00 00 00 01 67 42 00 00 01 68 00 00 00 41
--               4     6        9  10       13
--
-- has the units 67 42, from place 4 up to place 6, and 68, from 9 up to 10; then stand three zero bytes and the tail 41,
-- which fits nowhere: the text is broken at place 13. Without that byte it is whole.
use Rattle.std.specs.Prelude.{◌≡◌, ◌≢◌, ℕ, ◌+◌, ◌-◌, ◌<◌, ◌≤◌, ◌⊎◌, List, [], ◌∷◌, ◌++◌, length, slice_index, replicate, Contains, Option, Some, None}
use Rattle.std.specs.List.{AllByRecursion}

-- A unit's bytes: at least one, neither 00 00 00 nor 00 00 01 among them, and the last one isn't 00.
pub record IsUnit (unit : List ℕ) : Type 0 where
  pub some : 0 < length unit
  pub whole : (k : ℕ) → k + 2 < length unit → slice_index unit k ≡ 0 → slice_index unit (k + 1) ≡ 0 → 1 < slice_index unit (k + 2)
  pub last : slice_index unit (length unit - 1) ≢ 0

-- No byte of a unit stands at the front: 00 00 00 or 00 00 01 does, or there are only zero bytes to the end (a read past
-- the end is 0).
abbrev pub EndsUnit : List ℕ → Type 0
EndsUnit bytes = (slice_index bytes 0 ≡ 0) × (slice_index bytes 1 ≡ 0) × (slice_index bytes 2 ≤ 1)

-- A unit in its text: the zero bytes before the 01 of its start code, which are two or more (those that trail the unit
-- before it among them), and the unit's own bytes.
pub record Part : Type 0 where
  pub zeros : ℕ
  pub unit : List ℕ

pub record IsPart (part : Part) : Type 0 where
  pub zeros : 2 ≤ part.zeros
  pub unit : IsUnit part.unit

-- the parts one behind the other, and then these bytes
abbrev pub stream : List Part → List ℕ → List ℕ
stream [] rest = rest
stream (part ∷ parts) rest = replicate part.zeros 0 ++ 1 ∷ (part.unit ++ stream parts rest)

-- the first place of the unit of a part that begins at from, and the place after its last byte
abbrev pub place : ℕ → Part → ℕ × ℕ
place from part = (from + part.zeros + 1, from + part.zeros + 1 + length part.unit)

abbrev pub places : ℕ → List Part → List (ℕ × ℕ)
places from [] = []
places from (part ∷ parts) = place from part ∷ places (place from part).1 parts

-- where the parts end
abbrev pub end_of : ℕ → List Part → ℕ
end_of from [] = from
end_of from (part ∷ parts) = end_of (place from part).1 parts

-- Behind so many zero bytes, the 01 of a start code.
abbrev pub IsStart : ℕ → ℕ → Type 0
IsStart run byte = (2 ≤ run) × (byte ≡ 1)

-- as many zero bytes end what stands before: none at the beginning of a text, three behind a unit
abbrev pub fewest : List Part → ℕ
fewest [] = 0
fewest (part ∷ parts) = 3

-- A run of zero bytes stands from place from on, and then this tail: nothing; or a byte that fits nowhere, since the run
-- has ended what stood before it and the byte is no start code's; or the 01 of a start code with no unit behind it, where
-- the place of that unit is the broken one.
abbrev pub Ending : (least from run : ℕ) → List ℕ → Option ℕ → Type 0
Ending least from run [] broken = broken ≡ None
Ending least from run (byte ∷ more) broken =
    ((byte ≢ 0) × (IsStart run byte → ⊥) × (least ≤ run) × (broken ≡ Some (from + run)))
    ⊎ (IsStart run byte × EndsUnit more × (broken ≡ Some (from + run + 1)))

-- The text has these units, each with its first place and the place after its last byte, up to the broken place, where
-- there is one, or to the end.
pub record Units (text : List ℕ) (units : List (ℕ × ℕ)) (broken : Option ℕ) : Type 0 where
  pub parts : List Part
  pub run : ℕ
  pub tail : List ℕ
  pub each : AllByRecursion IsPart parts
  pub spelled : text ≡ stream parts (replicate run 0 ++ tail)
  pub placed : units ≡ places 0 parts
  pub ending : Ending (fewest parts) (end_of 0 parts) run tail broken

-- one of the text's units stands there
abbrev pub HasUnit : List ℕ → ℕ → ℕ → Type 0
HasUnit text start end = (units : List (ℕ × ℕ)) × (broken : Option ℕ) × Units text units broken × Contains units (start, end)
