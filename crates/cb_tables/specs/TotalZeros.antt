-- H.264, 9.2.3: total_zeros, the number of zero levels before the last level that isn't 0.
use Rattle.std.specs.Prelude.{ℕ, ◌+◌, ◌-◌, ◌≤◌}
use Rattle.cb_tables.specs.declared.codes.Code.{Code}
use Rattle.cb_tables.specs.Codes.{code_at}
use Rattle.cb_tables.specs.TotalZerosRows.{total_zeros_rows}
use Rattle.cb_tables.specs.TotalZerosChromaDc.{dc_zeros_rows}

-- Tables 9-7 and 9-8 have rows for 1 to 15 levels, and together with its zeros a block has at most 16.
pub record IsTotalZeros (total zeros : ℕ) : Type 0 where
  pub some : 1 ≤ total
  pub most : total ≤ 15
  pub within : total + zeros ≤ 16

unfoldable pub total_zeros_code : ℕ → ℕ → Code
total_zeros_code total zeros = code_at total_zeros_rows (total - 1) zeros

-- Table 9-9 (a) has rows for 1 to 3 levels, and together with its zeros a block has at most 4.
pub record IsDcZeros (total zeros : ℕ) : Type 0 where
  pub some : 1 ≤ total
  pub most : total ≤ 3
  pub within : total + zeros ≤ 4

unfoldable pub dc_zeros_code : ℕ → ℕ → Code
dc_zeros_code total zeros = code_at dc_zeros_rows (total - 1) zeros
