-- The residual samples of a 4x4 block, each by one formula over whole numbers (H.264, 8.5.12).
use Rattle.std.specs.Prelude.{ℕ, ◌+◌, ◌*◌, ◌/◌, ◌%◌, ◌^◌, ◌==◌, ◌&&◌, if◌then◌else◌, ℤ, pos, ◌+ℤ◌, ◌-ℤ◌, ◌*ℤ◌, List, [], ◌∷◌, Option, Some, None, is_some}
use Rattle.std.specs.Int.{int_shr}
use Rattle.cb_tables.specs.LevelScale.{level_scale_at}
use Rattle.int_transform.specs.Scan.{scanned, value_at}

-- The values of a block in scan order. Where its DC value is given, that is the first, and the levels stand behind it.
abbrev pub in_scan_order : List ℤ → Option ℤ → List ℤ
in_scan_order levels None = levels
in_scan_order levels (Some dc) = dc ∷ levels

-- what a level is multiplied by at a place of a block, which counts its rows of four: the level scale, doubled for each six steps of QP
unfoldable pub scale_at : ℕ → ℕ → ℕ
scale_at qp place = level_scale_at (qp % 6) place * 2 ^ (qp / 6)

-- d, the scaled value in a column of a row: a given DC value is taken as it is (8.5.12.1)
unfoldable pub scaled_at : List ℤ → Option ℤ → ℕ → ℕ → ℕ → ℤ
scaled_at levels dc qp row column =
    let value = scanned (in_scan_order levels dc) row column in
    if is_some dc && (row == 0 && column == 0) then value else value *ℤ pos (scale_at qp (4 * row + column))

-- the transform of four values, which are a row or a column (8.5.12.2)
unfoldable pub transformed : ℤ → ℤ → ℤ → ℤ → List ℤ
transformed d0 d1 d2 d3 =
    let e0 = d0 +ℤ d2 in
    let e1 = d0 -ℤ d2 in
    let e2 = int_shr d1 1 -ℤ d3 in
    let e3 = d1 +ℤ int_shr d3 1 in
    (e0 +ℤ e3) ∷ (e1 +ℤ e2) ∷ (e1 -ℤ e2) ∷ (e0 -ℤ e3) ∷ []

-- the residual sample in a column of a row, from the four rows transformed: the column is transformed, and the value is rounded (8.5.12.2)
unfoldable pub sample_from : List ℤ → List ℤ → List ℤ → List ℤ → ℕ → ℕ → ℤ
sample_from f0 f1 f2 f3 row column =
    let h = transformed (value_at f0 column) (value_at f1 column) (value_at f2 column) (value_at f3 column) in
    int_shr (value_at h row +ℤ pos 32) 6

-- the residual sample in a column of a row
unfoldable pub residual_at : List ℤ → Option ℤ → ℕ → ℕ → ℕ → ℤ
residual_at levels dc qp row column =
    let d = scaled_at levels dc qp in
    let f = λ (i : ℕ). transformed (d i 0) (d i 1) (d i 2) (d i 3) in
    sample_from (f 0) (f 1) (f 2) (f 3) row column
