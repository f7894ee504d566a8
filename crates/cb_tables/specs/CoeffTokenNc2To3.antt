-- H.264, Table 9-5: coeff_token, the column 2 <= nC < 4.
use Rattle.std.specs.Prelude.{ℕ, List, [], ◌∷◌}

-- Rows by TotalCoeff, columns by TrailingOnes 0, 1, 2, 3; each code as (length, value).
unfoldable pub tokens_nc_2_to_3 : List (List (ℕ × ℕ))
tokens_nc_2_to_3 =
    -- TotalCoeff 0
    ((2, 3) ∷ []) ∷
    -- TotalCoeff 1
    ((6, 11) ∷ (2, 2) ∷ []) ∷
    -- TotalCoeff 2
    ((6, 7) ∷ (5, 7) ∷ (3, 3) ∷ []) ∷
    -- TotalCoeff 3
    ((7, 7) ∷ (6, 10) ∷ (6, 9) ∷ (4, 5) ∷ []) ∷
    -- TotalCoeff 4
    ((8, 7) ∷ (6, 6) ∷ (6, 5) ∷ (4, 4) ∷ []) ∷
    -- TotalCoeff 5
    ((8, 4) ∷ (7, 6) ∷ (7, 5) ∷ (5, 6) ∷ []) ∷
    -- TotalCoeff 6
    ((9, 7) ∷ (8, 6) ∷ (8, 5) ∷ (6, 8) ∷ []) ∷
    -- TotalCoeff 7
    ((11, 15) ∷ (9, 6) ∷ (9, 5) ∷ (6, 4) ∷ []) ∷
    -- TotalCoeff 8
    ((11, 11) ∷ (11, 14) ∷ (11, 13) ∷ (7, 4) ∷ []) ∷
    -- TotalCoeff 9
    ((12, 15) ∷ (11, 10) ∷ (11, 9) ∷ (9, 4) ∷ []) ∷
    -- TotalCoeff 10
    ((12, 11) ∷ (12, 14) ∷ (12, 13) ∷ (11, 12) ∷ []) ∷
    -- TotalCoeff 11
    ((12, 8) ∷ (12, 10) ∷ (12, 9) ∷ (11, 8) ∷ []) ∷
    -- TotalCoeff 12
    ((13, 15) ∷ (13, 14) ∷ (13, 13) ∷ (12, 12) ∷ []) ∷
    -- TotalCoeff 13
    ((13, 11) ∷ (13, 10) ∷ (13, 9) ∷ (13, 12) ∷ []) ∷
    -- TotalCoeff 14
    ((13, 7) ∷ (14, 11) ∷ (13, 6) ∷ (13, 8) ∷ []) ∷
    -- TotalCoeff 15
    ((14, 9) ∷ (14, 8) ∷ (14, 10) ∷ (13, 1) ∷ []) ∷
    -- TotalCoeff 16
    ((14, 7) ∷ (14, 6) ∷ (14, 5) ∷ (14, 4) ∷ []) ∷
    []
