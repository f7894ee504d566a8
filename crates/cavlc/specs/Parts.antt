-- What the steps of reading and writing a block say.
use Rattle.std.specs.Prelude.{◌≡◌, ℕ, ◌+◌, ◌-◌, ◌≤◌, min, Bool, List, ◌++◌, length, take, All, Option, Some, None, ℤ, pos, unsigned_abs}
use Rattle.std.specs.List.{slice_index_or}
use Rattle.bit_io.specs.Reads.{BeginsNone}
use Rattle.cavlc.specs.Blocks.{HasRunCode, HasZerosCode, left_behind}
use Rattle.cavlc.specs.Coefficients.{levels, total_zeros}
use Rattle.cavlc.specs.Levels.{HaveLevelCodes}
use Rattle.cavlc.specs.Turns.{AreInTurn}

-- As Reads of bit_io, but that what is left after a None is open.
abbrev pub Gives : {V : Type 0} → (V → Type 0) → (V → List Bool) → List Bool → Option V → List Bool → Type 0
Gives IsValue code old (Some v) new = IsValue v × (old ≡ code v ++ new)
Gives IsValue code old None new = BeginsNone IsValue code old

abbrev pub IsOne : ℤ → Type 0
IsOne level = unsigned_abs level ≡ 1

-- the levels of a block in the order in which they are spelled
pub record AreLevels (total ones : ℕ) (levels : List ℤ) : Type 0 where
  pub size : length levels ≡ total
  pub few : ones ≤ min 3 total
  pub each : All IsOne (take ones levels)
  pub codes : HaveLevelCodes total ones levels

-- total_zeros, which is 0 where it isn't spelled
pub record IsZeros (most total zeros : ℕ) : Type 0 where
  pub code : HasZerosCode most total zeros
  pub within : total + zeros ≤ most
  pub none : total ≡ 0 → zeros ≡ 0

-- the runs of a block
pub record AreRuns (total zeros : ℕ) (runs : List ℕ) : Type 0 where
  pub size : length runs ≡ total - 1
  pub codes : AreInTurn HasRunCode left_behind zeros runs

-- The block has these levels and so many zeros before the last of them.
pub record IsPlaced (of_levels : List ℤ) (zeros : ℕ) (c : List ℤ) : Type 0 where
  pub size : length c ≡ 16
  pub same_levels : levels c ≡ of_levels
  pub same_zeros : total_zeros c ≡ zeros
  pub beyond : (place : ℕ) → length of_levels + zeros ≤ place → slice_index_or c place (pos 0) ≡ pos 0

-- The bits are those before, and more.
abbrev pub IsLonger : List Bool → List Bool → Type 0
IsLonger old new = (more : List Bool) × (new ≡ old ++ more)
