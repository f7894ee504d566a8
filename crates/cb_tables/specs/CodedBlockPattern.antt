-- H.264, Table 9-4 (a), ChromaArrayType 1: the coded block pattern that a codeNum of me(v) stands for.
use Rattle.std.specs.Prelude.{ℕ, ◌==◌, Bool, true, false, List, [], ◌∷◌, position, slice_index, unwrap_or}

-- the column of Intra_4x4 macroblocks, by codeNum 0 to 47
unfoldable pub intra_patterns : List ℕ
intra_patterns =
    47 ∷ 31 ∷ 15 ∷ 0 ∷ 23 ∷ 27 ∷ 29 ∷ 30 ∷
    7 ∷ 11 ∷ 13 ∷ 14 ∷ 39 ∷ 43 ∷ 45 ∷ 46 ∷
    16 ∷ 3 ∷ 5 ∷ 10 ∷ 12 ∷ 19 ∷ 21 ∷ 26 ∷
    28 ∷ 35 ∷ 37 ∷ 42 ∷ 44 ∷ 1 ∷ 2 ∷ 4 ∷
    8 ∷ 17 ∷ 18 ∷ 20 ∷ 24 ∷ 6 ∷ 9 ∷ 22 ∷
    25 ∷ 32 ∷ 33 ∷ 34 ∷ 36 ∷ 40 ∷ 38 ∷ 41 ∷
    []

-- the column of inter macroblocks, by codeNum 0 to 47
unfoldable pub inter_patterns : List ℕ
inter_patterns =
    0 ∷ 16 ∷ 1 ∷ 2 ∷ 4 ∷ 8 ∷ 32 ∷ 3 ∷
    5 ∷ 10 ∷ 12 ∷ 15 ∷ 47 ∷ 7 ∷ 11 ∷ 13 ∷
    14 ∷ 6 ∷ 9 ∷ 31 ∷ 35 ∷ 37 ∷ 42 ∷ 44 ∷
    33 ∷ 34 ∷ 36 ∷ 40 ∷ 39 ∷ 43 ∷ 45 ∷ 46 ∷
    17 ∷ 18 ∷ 20 ∷ 24 ∷ 19 ∷ 21 ∷ 26 ∷ 28 ∷
    23 ∷ 27 ∷ 29 ∷ 30 ∷ 22 ∷ 25 ∷ 38 ∷ 41 ∷
    []

abbrev pub patterns : Bool → List ℕ
patterns true = intra_patterns
patterns false = inter_patterns

unfoldable pub pattern_at : ℕ → Bool → ℕ
pattern_at code intra = slice_index (patterns intra) code

-- the codeNum that stands for the pattern: its place in the column
unfoldable pub pattern_code_at : ℕ → Bool → ℕ
pattern_code_at pattern intra = unwrap_or (position (λ p. p == pattern) (patterns intra)) 0
