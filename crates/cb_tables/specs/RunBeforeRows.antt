-- H.264, Table 9-10: run_before.
use Rattle.std.specs.Prelude.{ℕ, List, [], ◌∷◌}

-- Rows by zerosLeft from 1, columns by run_before from 0; each code as (length, value).
unfoldable pub run_rows : List (List (ℕ × ℕ))
run_rows =
    -- zerosLeft 1
    ((1, 1) ∷ (1, 0) ∷ []) ∷
    -- zerosLeft 2
    ((1, 1) ∷ (2, 1) ∷ (2, 0) ∷ []) ∷
    -- zerosLeft 3
    ((2, 3) ∷ (2, 2) ∷ (2, 1) ∷ (2, 0) ∷ []) ∷
    -- zerosLeft 4
    ((2, 3) ∷ (2, 2) ∷ (2, 1) ∷ (3, 1) ∷ (3, 0) ∷ []) ∷
    -- zerosLeft 5
    ((2, 3) ∷ (2, 2) ∷ (3, 3) ∷ (3, 2) ∷ (3, 1) ∷ (3, 0) ∷ []) ∷
    -- zerosLeft 6
    ((2, 3) ∷ (3, 0) ∷ (3, 1) ∷ (3, 3) ∷ (3, 2) ∷ (3, 5) ∷ (3, 4) ∷ []) ∷
    -- zerosLeft above 6
    ((3, 7) ∷ (3, 6) ∷ (3, 5) ∷ (3, 4) ∷ (3, 3) ∷ (3, 2) ∷ (3, 1) ∷ (4, 1) ∷ (5, 1) ∷ (6, 1) ∷ (7, 1) ∷ (8, 1) ∷ (9, 1) ∷ (10, 1) ∷ (11, 1) ∷ []) ∷
    []
