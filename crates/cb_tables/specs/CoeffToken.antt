-- H.264, 9.2.1: coeff_token, the number of levels other than 0 (TotalCoeff) and how many trailing ones they end with.
use Rattle.std.specs.Prelude.{◌≡◌, ℕ, zero, suc, ◌+◌, ◌-◌, ◌*◌, ◌≤◌, ◌==◌, min, if◌then◌else◌, List}
use Rattle.cb_tables.specs.declared.codes.Code.{Code}
use Rattle.cb_tables.specs.Codes.{BeginsWith, code_at, code_of}
use Rattle.cb_tables.specs.CoeffTokenNc0To1.{tokens_nc_0_to_1}
use Rattle.cb_tables.specs.CoeffTokenNc2To3.{tokens_nc_2_to_3}
use Rattle.cb_tables.specs.CoeffTokenNc4To7.{tokens_nc_4_to_7}
use Rattle.cb_tables.specs.CoeffTokenChromaDc.{tokens_chroma_dc}

-- The lists of Table 9-5 in their order: nC 0 and 1, 2 and 3, 4 to 7, 8 and above, -1. The last is for blocks of 4 levels.
abbrev pub most_levels : ℕ → ℕ
most_levels list = if list == 4 then 4 else 16

-- the list has this entry
pub record IsToken (list total ones : ℕ) : Type 0 where
  pub listed : list ≤ 4
  pub levels : total ≤ most_levels list
  pub trailing : ones ≤ min 3 total

-- nC of 8 and above: six bits, 0000 11 without levels
abbrev pub six_bits : ℕ → ℕ → ℕ × ℕ
six_bits total ones = (6, if total == 0 then 3 else (total - 1) * 4 + ones)

-- the lists that are written out
abbrev pub token_rows : ℕ → List (List (ℕ × ℕ))
token_rows zero = tokens_nc_0_to_1
token_rows (suc zero) = tokens_nc_2_to_3
token_rows (suc (suc zero)) = tokens_nc_4_to_7
token_rows _ = tokens_chroma_dc

unfoldable pub token_code : ℕ → ℕ → ℕ → Code
token_code list total ones = if list == 3 then code_of (six_bits total ones) else code_at (token_rows list) total ones

-- No other code of the list can begin the window.
abbrev pub IsOnlyToken : ℕ → ℕ → ℕ → ℕ → Type 0
IsOnlyToken list window total ones =
    (other_total other_ones : ℕ) → IsToken list other_total other_ones → BeginsWith window (token_code list other_total other_ones) → (other_total ≡ total) × (other_ones ≡ ones)
