-- The rows of a matrix as they are used.
use Rattle.std.specs.Prelude.{◌≡◌, ℕ, ◌≤◌, ◌^◌, ◌/◌, List, [], ◌∷◌, slice_index, ℤ, unsigned_abs}
use Rattle.mixer.specs.Mixed.{coefficient, rounded, weighted_sum}
use Rattle.mixer.specs.declared.colours.Colours.{Colours}
use Rattle.mixer.specs.declared.colours.Weights.{Weights}

-- the weights are a row of the matrix
pub record IsRow (matrix : List ℤ) (row : ℕ) (w : Weights) : Type 0 where
  pub of_y : w.of_y ≡ coefficient matrix row 0
  pub of_cb : w.of_cb ≡ coefficient matrix row 1
  pub of_cr : w.of_cr ≡ coefficient matrix row 2
  pub constant : w.constant ≡ coefficient matrix row 3

-- sums of samples under them stay in 32 bits
pub record IsSmall (w : Weights) : Type 0 where
  pub of_y : unsigned_abs w.of_y ≤ 2 ^ 20
  pub of_cb : unsigned_abs w.of_cb ≤ 2 ^ 20
  pub of_cr : unsigned_abs w.of_cr ≤ 2 ^ 20
  pub constant : unsigned_abs w.constant ≤ 2 ^ 30

pub record AreSmall (c : Colours) : Type 0 where
  pub first : IsSmall c.first
  pub second : IsSmall c.second
  pub third : IsSmall c.third

-- one colour of these samples
abbrev pub under : Weights → ℕ → ℕ → ℕ → ℕ
under w y cb cr = rounded (weighted_sum w.of_y w.of_cb w.of_cr w.constant y cb cr)

-- the bytes of an opaque pixel
abbrev pub bytes_under : Colours → ℕ → ℕ → ℕ → List ℕ
bytes_under c y cb cr = under c.first y cb cr ∷ under c.second y cb cr ∷ under c.third y cb cr ∷ 255 ∷ []

-- the bytes of the pixel in this column of a row, whose samples are given
abbrev pub in_row : Colours → List ℕ → List ℕ → List ℕ → ℕ → List ℕ
in_row c luma cb cr x = bytes_under c (slice_index luma x) (slice_index cb (x / 2)) (slice_index cr (x / 2))
