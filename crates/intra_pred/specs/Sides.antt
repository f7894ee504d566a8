-- The samples beside a block. Those above it are p[ x, -1 ] of H.264 8.3, those left of it p[ -1, y ], and the corner is p[ -1, -1 ].
use Rattle.std.specs.Prelude.{ℕ, ◌+◌, ◌*◌, ℤ, pos, negsuc, List, [], ◌∷◌, ◌++◌, replicate, Option, slice_index}
use Rattle.std.specs.Option.{unwrap_or}

-- a side, where the corner stands at -1
abbrev pub edge : List ℕ → ℕ → ℤ → ℕ
edge side corner (pos i) = slice_index side i
edge side corner (negsuc i) = corner

-- a side that a mode needs
abbrev pub given : Option (List ℕ) → List ℕ
given side = unwrap_or side []

-- The eight samples above a 4x4 block and right of there. Where the latter four are missing, the last of the former stands for each (H.264, 8.3.1.2).
abbrev pub eight : List ℕ → Option (List ℕ) → List ℕ
eight top right = top ++ unwrap_or right (replicate 4 (slice_index top 3))

-- the sample in a column of a row, of samples in rows of this width
abbrev pub sample_in : ℕ → List ℕ → ℕ → ℕ → ℕ
sample_in width samples x y = slice_index samples (width * y + x)

-- the sixteen samples of a 4x4 block, row by row
abbrev pub block4 : (ℕ → ℕ → ℕ) → List ℕ
block4 f =
    f 0 0 ∷ f 1 0 ∷ f 2 0 ∷ f 3 0 ∷
    f 0 1 ∷ f 1 1 ∷ f 2 1 ∷ f 3 1 ∷
    f 0 2 ∷ f 1 2 ∷ f 2 2 ∷ f 3 2 ∷
    f 0 3 ∷ f 1 3 ∷ f 2 3 ∷ f 3 3 ∷
    []
