-- Blocks of 4x4 values as lists.
use Rattle.std.specs.Prelude.{ℕ, ℤ, pos, List, [], ◌∷◌, slice_index}
use Rattle.std.specs.List.{slice_index_or}

-- the value at an index, and 0 behind the last
abbrev pub value_at : List ℤ → ℕ → ℤ
value_at values k = slice_index_or values k (pos 0)

-- four columns of four values, row by row
abbrev pub by_rows : List ℤ → List ℤ → List ℤ → List ℤ → List ℤ
by_rows a b c d =
    value_at a 0 ∷ value_at b 0 ∷ value_at c 0 ∷ value_at d 0 ∷
    value_at a 1 ∷ value_at b 1 ∷ value_at c 1 ∷ value_at d 1 ∷
    value_at a 2 ∷ value_at b 2 ∷ value_at c 2 ∷ value_at d 2 ∷
    value_at a 3 ∷ value_at b 3 ∷ value_at c 3 ∷ value_at d 3 ∷
    []

-- the position in the zig-zag scan of each place of a block, row by row from the top (H.264, 8.5.6)
unfoldable pub scan_rows : List (List ℕ)
scan_rows =
    (0 ∷ 1 ∷ 5 ∷ 6 ∷ []) ∷
    (2 ∷ 4 ∷ 7 ∷ 12 ∷ []) ∷
    (3 ∷ 8 ∷ 11 ∷ 13 ∷ []) ∷
    (9 ∷ 10 ∷ 14 ∷ 15 ∷ []) ∷
    []

-- the value in a column of a row, of values in scan order
unfoldable pub scanned : List ℤ → ℕ → ℕ → ℤ
scanned values row column = value_at values (slice_index (slice_index_or scan_rows row []) column)
