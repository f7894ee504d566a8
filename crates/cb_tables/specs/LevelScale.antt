-- H.264, 8.5.9: the level scale of 4x4 blocks under flat scaling lists, normAdjust4x4.
use Rattle.std.specs.Prelude.{ℕ, ◌/◌, ◌%◌, ◌==◌, ◌&&◌, if◌then◌else◌, List, [], ◌∷◌, slice_index}
use Rattle.std.specs.List.{slice_index_or}

-- the matrix v: rows by QP % 6, 0 to 5
unfoldable pub scale_rows : List (List ℕ)
scale_rows =
    (10 ∷ 16 ∷ 13 ∷ []) ∷
    (11 ∷ 18 ∷ 14 ∷ []) ∷
    (13 ∷ 20 ∷ 16 ∷ []) ∷
    (14 ∷ 23 ∷ 18 ∷ []) ∷
    (16 ∷ 25 ∷ 20 ∷ []) ∷
    (18 ∷ 29 ∷ 23 ∷ []) ∷
    []

-- The first column is for an even row and an even column of the block, the second for an odd and an odd, the third for the others.
abbrev pub scale_column : ℕ → ℕ → ℕ
scale_column row column = if row % 2 == 0 && column % 2 == 0 then 0 else if row % 2 == 1 && column % 2 == 1 then 1 else 2

-- the place counts the block's rows of four from 0 to 15
unfoldable pub level_scale_at : ℕ → ℕ → ℕ
level_scale_at rem place = slice_index (slice_index_or scale_rows rem []) (scale_column (place / 4) (place % 4))
