-- H.264, 7.3.5.3.1 and 9.2: the spelling of a block of coefficients.
use Rattle.std.specs.Prelude.{◌≡◌, ◌≢◌, ℕ, ◌-◌, ◌<◌, ◌≤◌, ◌==◌, nat_lt, if◌then◌else◌, Bool, List, [], ◌++◌, length, ℤ, pos, negsuc}
use Rattle.std.specs.List.{slice_index_or}
use Rattle.bit_io.specs.Bits.{u}
use Rattle.cb_tables.specs.declared.codes.Code.{Code}
use Rattle.cb_tables.specs.CoeffToken.{IsToken, token_code}
use Rattle.cb_tables.specs.RunBefore.{IsRun, run_code}
use Rattle.cb_tables.specs.TotalZeros.{IsDcZeros, IsTotalZeros, dc_zeros_code, total_zeros_code}
use Rattle.cavlc.specs.Coefficients.{levels, runs, total_coeff, total_zeros, trailing_ones}
use Rattle.cavlc.specs.Levels.{HaveLevelCodes, levels_bits}
use Rattle.cavlc.specs.Turns.{AreInTurn, in_turn}

abbrev pub code_bits : Code → List Bool
code_bits code = u code.value code.length

-- 9.2.1: the list of Table 9-5 for an nC
abbrev pub token_list : ℤ → ℕ
token_list (pos nc) = if nat_lt nc 2 then 0 else (if nat_lt nc 4 then 1 else (if nat_lt nc 8 then 2 else 3))
token_list (negsuc n) = 4

unfoldable pub token_bits : ℤ → ℕ → ℕ → List Bool
token_bits nc total ones = code_bits (token_code (token_list nc) total ones)

-- 9.2.3: Blocks of four coefficients, those of chroma DC, have tables of their own.
abbrev pub zeros_code : ℕ → ℕ → ℕ → Code
zeros_code most total zeros = if most == 4 then dc_zeros_code total zeros else total_zeros_code total zeros

-- total_zeros is spelled where there are levels, and fewer than the most that there can be.
unfoldable pub zeros_bits : ℕ → ℕ → ℕ → List Bool
zeros_bits most total zeros = if total == 0 then [] else (if nat_lt total most then code_bits (zeros_code most total zeros) else [])

-- where it is spelled, the table has it
pub record HasZerosCode (most total zeros : ℕ) : Type 0 where
  pub chroma_dc : 1 ≤ total → total < most → most ≡ 4 → IsDcZeros total zeros
  pub others : 1 ≤ total → total < most → most ≢ 4 → IsTotalZeros total zeros

-- 9.2.3: run_before is spelled while zeros are left.
unfoldable pub run_bits : ℕ → ℕ → List Bool
run_bits left run = if left == 0 then [] else code_bits (run_code left run)

pub record HasRunCode (left run : ℕ) : Type 0 where
  pub within : run ≤ left
  pub listed : 1 ≤ left → IsRun left run

abbrev pub left_behind : ℕ → ℕ → ℕ
left_behind left run = left - run

-- the bits of a block with an nC (-1 for the DC coefficients of a chroma block), which has so many coefficients at most
unfoldable pub block_bits : ℤ → ℕ → List ℤ → List Bool
block_bits nc most c =
    token_bits nc (total_coeff c) (trailing_ones c)
    ++ levels_bits (total_coeff c) (trailing_ones c) (levels c)
    ++ zeros_bits most (total_coeff c) (total_zeros c)
    ++ in_turn run_bits left_behind (total_zeros c) (runs c)

-- The block has a spelling: each of its elements has a code.
pub record HasSpelling (nc : ℤ) (most : ℕ) (c : List ℤ) : Type 0 where
  pub size : length c ≡ 16
  pub beyond : (place : ℕ) → most ≤ place → slice_index_or c place (pos 0) ≡ pos 0
  pub token : IsToken (token_list nc) (total_coeff c) (trailing_ones c)
  pub level_codes : HaveLevelCodes (total_coeff c) (trailing_ones c) (levels c)
  pub zeros_code : HasZerosCode most (total_coeff c) (total_zeros c)
  pub run_codes : AreInTurn HasRunCode left_behind (total_zeros c) (runs c)
