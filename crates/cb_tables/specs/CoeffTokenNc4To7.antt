-- H.264, Table 9-5: coeff_token, the column 4 <= nC < 8.
use Rattle.std.specs.Prelude.{ℕ, List, [], ◌∷◌}

-- Rows by TotalCoeff, columns by TrailingOnes 0, 1, 2, 3; each code as (length, value).
unfoldable pub tokens_nc_4_to_7 : List (List (ℕ × ℕ))
tokens_nc_4_to_7 =
    -- TotalCoeff 0
    ((4, 15) ∷ []) ∷
    -- TotalCoeff 1
    ((6, 15) ∷ (4, 14) ∷ []) ∷
    -- TotalCoeff 2
    ((6, 11) ∷ (5, 15) ∷ (4, 13) ∷ []) ∷
    -- TotalCoeff 3
    ((6, 8) ∷ (5, 12) ∷ (5, 14) ∷ (4, 12) ∷ []) ∷
    -- TotalCoeff 4
    ((7, 15) ∷ (5, 10) ∷ (5, 11) ∷ (4, 11) ∷ []) ∷
    -- TotalCoeff 5
    ((7, 11) ∷ (5, 8) ∷ (5, 9) ∷ (4, 10) ∷ []) ∷
    -- TotalCoeff 6
    ((7, 9) ∷ (6, 14) ∷ (6, 13) ∷ (4, 9) ∷ []) ∷
    -- TotalCoeff 7
    ((7, 8) ∷ (6, 10) ∷ (6, 9) ∷ (4, 8) ∷ []) ∷
    -- TotalCoeff 8
    ((8, 15) ∷ (7, 14) ∷ (7, 13) ∷ (5, 13) ∷ []) ∷
    -- TotalCoeff 9
    ((8, 11) ∷ (8, 14) ∷ (7, 10) ∷ (6, 12) ∷ []) ∷
    -- TotalCoeff 10
    ((9, 15) ∷ (8, 10) ∷ (8, 13) ∷ (7, 12) ∷ []) ∷
    -- TotalCoeff 11
    ((9, 11) ∷ (9, 14) ∷ (8, 9) ∷ (8, 12) ∷ []) ∷
    -- TotalCoeff 12
    ((9, 8) ∷ (9, 10) ∷ (9, 13) ∷ (8, 8) ∷ []) ∷
    -- TotalCoeff 13
    ((10, 13) ∷ (9, 7) ∷ (9, 9) ∷ (9, 12) ∷ []) ∷
    -- TotalCoeff 14
    ((10, 9) ∷ (10, 12) ∷ (10, 11) ∷ (10, 10) ∷ []) ∷
    -- TotalCoeff 15
    ((10, 5) ∷ (10, 8) ∷ (10, 7) ∷ (10, 6) ∷ []) ∷
    -- TotalCoeff 16
    ((10, 1) ∷ (10, 4) ∷ (10, 3) ∷ (10, 2) ∷ []) ∷
    []
