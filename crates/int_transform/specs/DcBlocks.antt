-- The DC values of the blocks of a macroblock, each by one formula over whole numbers.
use Rattle.std.specs.Prelude.{ℕ, ◌+◌, ◌-◌, ◌*◌, ◌/◌, ◌%◌, ◌^◌, nat_lt, if◌then◌else◌, ℤ, pos, ◌+ℤ◌, ◌-ℤ◌, ◌*ℤ◌, List, [], ◌∷◌}
use Rattle.std.specs.Int.{int_shr}
use Rattle.cb_tables.specs.LevelScale.{level_scale_at}
use Rattle.int_transform.specs.Residual.{scale_at}
use Rattle.int_transform.specs.Scan.{scanned, value_at}

-- the product of the matrix
--     1  1  1  1
--     1  1 -1 -1
--     1 -1 -1  1
--     1 -1  1 -1
-- with four values. Its columns are its rows.
unfoldable pub times_four : ℤ → ℤ → ℤ → ℤ → List ℤ
times_four c0 c1 c2 c3 = (c0 +ℤ c1 +ℤ c2 +ℤ c3) ∷ (c0 +ℤ c1 -ℤ c2 -ℤ c3) ∷ (c0 -ℤ c1 -ℤ c2 +ℤ c3) ∷ (c0 -ℤ c1 +ℤ c2 -ℤ c3) ∷ []

-- the DC value for a value f of the product: f is scaled, and divided by 4 and rounded (H.264, 8.5.10)
unfoldable pub scaled_dc : ℤ → ℕ → ℤ
scaled_dc f qp =
    let v = level_scale_at (qp % 6) 0 in
    let q = qp / 6 in
    if nat_lt q 2 then int_shr (f *ℤ pos v +ℤ pos (2 ^ (1 - q))) (2 - q) else f *ℤ pos (v * 2 ^ (q - 2))

-- the DC value of the luma block in a column of a row, from the four rows multiplied: the column is multiplied, and the value is scaled
unfoldable pub dc_from : List ℤ → List ℤ → List ℤ → List ℤ → ℕ → ℕ → ℕ → ℤ
dc_from e0 e1 e2 e3 qp row column =
    let f = times_four (value_at e0 column) (value_at e1 column) (value_at e2 column) (value_at e3 column) in
    scaled_dc (value_at f row) qp

-- the DC value of the luma block in a column of a row of a macroblock's blocks, from levels in scan order (H.264, 8.5.10)
unfoldable pub luma_dc_at : List ℤ → ℕ → ℕ → ℕ → ℤ
luma_dc_at levels qp row column =
    let c = scanned levels in
    let e = λ (i : ℕ). times_four (c i 0) (c i 1) (c i 2) (c i 3) in
    dc_from (e 0) (e 1) (e 2) (e 3) qp row column

-- the product of the matrix
--     1  1
--     1 -1
-- with two values
unfoldable pub times_two : ℤ → ℤ → List ℤ
times_two c0 c1 = (c0 +ℤ c1) ∷ (c0 -ℤ c1) ∷ []

-- the DC value of the chroma block in a column of a row of a macroblock's blocks, from levels row by row (H.264, 8.5.11)
unfoldable pub chroma_dc_at : List ℤ → ℕ → ℕ → ℕ → ℤ
chroma_dc_at levels qpc row column =
    let c = λ (i j : ℕ). value_at levels (2 * i + j) in
    let e = λ (i : ℕ). times_two (c i 0) (c i 1) in
    let f = times_two (value_at (e 0) column) (value_at (e 1) column) in
    int_shr (value_at f row *ℤ pos (scale_at qpc 0)) 1
