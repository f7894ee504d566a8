-- H.264, Table 9-5: coeff_token, the column nC == -1, the DC levels of a chroma block.
use Rattle.std.specs.Prelude.{ℕ, List, [], ◌∷◌}

-- Rows by TotalCoeff, columns by TrailingOnes 0, 1, 2, 3; each code as (length, value).
unfoldable pub tokens_chroma_dc : List (List (ℕ × ℕ))
tokens_chroma_dc =
    -- TotalCoeff 0
    ((2, 1) ∷ []) ∷
    -- TotalCoeff 1
    ((6, 7) ∷ (1, 1) ∷ []) ∷
    -- TotalCoeff 2
    ((6, 4) ∷ (6, 6) ∷ (3, 1) ∷ []) ∷
    -- TotalCoeff 3
    ((6, 3) ∷ (7, 3) ∷ (7, 2) ∷ (6, 5) ∷ []) ∷
    -- TotalCoeff 4
    ((6, 2) ∷ (8, 3) ∷ (8, 2) ∷ (7, 0) ∷ []) ∷
    []
