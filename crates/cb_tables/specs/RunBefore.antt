-- H.264, 9.2.3: run_before, the number of levels of 0 right before a level.
use Rattle.std.specs.Prelude.{ℕ, ◌-◌, ◌≤◌, nat_le, min, if◌then◌else◌}
use Rattle.cb_tables.specs.declared.codes.Code.{Code}
use Rattle.cb_tables.specs.Codes.{code_at}
use Rattle.cb_tables.specs.RunBeforeRows.{run_rows}

-- Up to 6 zeros left have lists of their own, all others one list of runs up to 14.
abbrev pub longest_run : ℕ → ℕ
longest_run left = if nat_le left 6 then left else 14

pub record IsRun (left run : ℕ) : Type 0 where
  pub some : 1 ≤ left
  pub most : run ≤ longest_run left

unfoldable pub run_code : ℕ → ℕ → Code
run_code left run = code_at run_rows (min left 7 - 1) run
