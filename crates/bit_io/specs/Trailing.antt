-- H.264, 7.2 and 7.3.2.11: the bits that end a payload.
use Rattle.std.specs.Prelude.{◌≡◌, ℕ, ◌-◌, ◌%◌, ◌<◌, Bool, true, false, List, ◌∷◌, ◌++◌, replicate}

-- rbsp_trailing_bits behind n bits: a 1, and zeros up to a whole byte
abbrev pub trailing_bits : ℕ → List Bool
trailing_bits n = true ∷ replicate (7 - n % 8) false

-- all that is left is a 1 and fewer than eight zeros
abbrev pub EndsHere : List Bool → Type 0
EndsHere rest = (zeros : ℕ) × (zeros < 8) × (rest ≡ true ∷ replicate zeros false)

-- more_rbsp_data: a bit stands before the last 1
abbrev pub HasMoreData : List Bool → Type 0
HasMoreData rest = (first : Bool) × (between : List Bool) × (zeros : ℕ) × (rest ≡ first ∷ between ++ true ∷ replicate zeros false)
