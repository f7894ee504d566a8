-- H.264, Table 9-9 (a): total_zeros of the DC levels of a chroma block.
use Rattle.std.specs.Prelude.{ℕ, List, [], ◌∷◌}

-- Rows by TotalCoeff from 1, columns by total_zeros from 0; each code as (length, value).
unfoldable pub dc_zeros_rows : List (List (ℕ × ℕ))
dc_zeros_rows =
    -- TotalCoeff 1
    ((1, 1) ∷ (2, 1) ∷ (3, 1) ∷ (3, 0) ∷ []) ∷
    -- TotalCoeff 2
    ((1, 1) ∷ (2, 1) ∷ (2, 0) ∷ []) ∷
    -- TotalCoeff 3
    ((1, 1) ∷ (1, 0) ∷ []) ∷
    []
