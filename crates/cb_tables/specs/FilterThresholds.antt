-- H.264, Table 8-16: the thresholds of the deblocking filter, α' by indexA and β' by indexB, each 0 to 51.
use Rattle.std.specs.Prelude.{ℕ, List, [], ◌∷◌, slice_index}

-- α', thirteen to a line
unfoldable pub alpha_row : List ℕ
alpha_row =
    0 ∷ 0 ∷ 0 ∷ 0 ∷ 0 ∷ 0 ∷ 0 ∷ 0 ∷ 0 ∷ 0 ∷ 0 ∷ 0 ∷ 0 ∷
    0 ∷ 0 ∷ 0 ∷ 4 ∷ 4 ∷ 5 ∷ 6 ∷ 7 ∷ 8 ∷ 9 ∷ 10 ∷ 12 ∷ 13 ∷
    15 ∷ 17 ∷ 20 ∷ 22 ∷ 25 ∷ 28 ∷ 32 ∷ 36 ∷ 40 ∷ 45 ∷ 50 ∷ 56 ∷ 63 ∷
    71 ∷ 80 ∷ 90 ∷ 101 ∷ 113 ∷ 127 ∷ 144 ∷ 162 ∷ 182 ∷ 203 ∷ 226 ∷ 255 ∷ 255 ∷
    []

-- β', thirteen to a line
unfoldable pub beta_row : List ℕ
beta_row =
    0 ∷ 0 ∷ 0 ∷ 0 ∷ 0 ∷ 0 ∷ 0 ∷ 0 ∷ 0 ∷ 0 ∷ 0 ∷ 0 ∷ 0 ∷
    0 ∷ 0 ∷ 0 ∷ 2 ∷ 2 ∷ 2 ∷ 3 ∷ 3 ∷ 3 ∷ 3 ∷ 4 ∷ 4 ∷ 4 ∷
    6 ∷ 6 ∷ 7 ∷ 7 ∷ 8 ∷ 8 ∷ 9 ∷ 9 ∷ 10 ∷ 10 ∷ 11 ∷ 11 ∷ 12 ∷
    12 ∷ 13 ∷ 13 ∷ 14 ∷ 14 ∷ 15 ∷ 15 ∷ 16 ∷ 16 ∷ 17 ∷ 17 ∷ 18 ∷ 18 ∷
    []

abbrev pub alpha_at : ℕ → ℕ
alpha_at index = slice_index alpha_row index

abbrev pub beta_at : ℕ → ℕ
beta_at index = slice_index beta_row index
