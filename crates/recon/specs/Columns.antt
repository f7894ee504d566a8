-- What is kept of the prediction modes of the macroblocks before one.
use Rattle.std.specs.Prelude.{◌≡◌, ℕ, ◌+◌, ◌%◌, ◌<◌, ◌≤◌, List, [], length, slice_index_or}
use Rattle.recon.specs.declared.columns.Columns.{Columns}
use Rattle.recon.specs.declared.modes.Modes.{Modes}

abbrev pub no_modes : Modes
no_modes = record { 0 = [] }

-- The modes of the last macroblock in each column: of those before, the last as many as stand side by side.
pub record AreColumns (first width : ℕ) (before : List (List ℕ)) (columns : Columns) : Type 0 where
  pub size : length columns.modes ≡ 256
  pub each : (number : ℕ) → number < length before → length before ≤ number + width
      → (slice_index_or columns.modes ((first + number) % width) no_modes).0 ≡ slice_index_or before number []
