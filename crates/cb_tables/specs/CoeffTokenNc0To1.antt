-- H.264, Table 9-5: coeff_token, the column 0 <= nC < 2.
use Rattle.std.specs.Prelude.{ℕ, List, [], ◌∷◌}

-- Rows by TotalCoeff, columns by TrailingOnes 0, 1, 2, 3; each code as (length, value).
unfoldable pub tokens_nc_0_to_1 : List (List (ℕ × ℕ))
tokens_nc_0_to_1 =
    -- TotalCoeff 0
    ((1, 1) ∷ []) ∷
    -- TotalCoeff 1
    ((6, 5) ∷ (2, 1) ∷ []) ∷
    -- TotalCoeff 2
    ((8, 7) ∷ (6, 4) ∷ (3, 1) ∷ []) ∷
    -- TotalCoeff 3
    ((9, 7) ∷ (8, 6) ∷ (7, 5) ∷ (5, 3) ∷ []) ∷
    -- TotalCoeff 4
    ((10, 7) ∷ (9, 6) ∷ (8, 5) ∷ (6, 3) ∷ []) ∷
    -- TotalCoeff 5
    ((11, 7) ∷ (10, 6) ∷ (9, 5) ∷ (7, 4) ∷ []) ∷
    -- TotalCoeff 6
    ((13, 15) ∷ (11, 6) ∷ (10, 5) ∷ (8, 4) ∷ []) ∷
    -- TotalCoeff 7
    ((13, 11) ∷ (13, 14) ∷ (11, 5) ∷ (9, 4) ∷ []) ∷
    -- TotalCoeff 8
    ((13, 8) ∷ (13, 10) ∷ (13, 13) ∷ (10, 4) ∷ []) ∷
    -- TotalCoeff 9
    ((14, 15) ∷ (14, 14) ∷ (13, 9) ∷ (11, 4) ∷ []) ∷
    -- TotalCoeff 10
    ((14, 11) ∷ (14, 10) ∷ (14, 13) ∷ (13, 12) ∷ []) ∷
    -- TotalCoeff 11
    ((15, 15) ∷ (15, 14) ∷ (14, 9) ∷ (14, 12) ∷ []) ∷
    -- TotalCoeff 12
    ((15, 11) ∷ (15, 10) ∷ (15, 13) ∷ (14, 8) ∷ []) ∷
    -- TotalCoeff 13
    ((16, 15) ∷ (15, 1) ∷ (15, 9) ∷ (15, 12) ∷ []) ∷
    -- TotalCoeff 14
    ((16, 11) ∷ (16, 14) ∷ (16, 13) ∷ (15, 8) ∷ []) ∷
    -- TotalCoeff 15
    ((16, 7) ∷ (16, 10) ∷ (16, 9) ∷ (16, 12) ∷ []) ∷
    -- TotalCoeff 16
    ((16, 4) ∷ (16, 6) ∷ (16, 5) ∷ (16, 8) ∷ []) ∷
    []
