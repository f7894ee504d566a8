-- Four columns of four values, laid out by rows.
use Rattle.std.proofs.Common.{◌≡◌, ℕ, ◌+◌, ◌*◌, ◌<◌, ℤ, List, [], ◌∷◌, lit<}
use Rattle.int_transform.specs.Bounds.{AreWithin, IsWithin}
use Rattle.int_transform.specs.Scan.{by_rows, value_at}
use Rattle.int_transform.proofs.Places.{by_four, within_four, within_none}

-- a column with these values, each within n
pub record IsColumn (n : ℕ) (value : ℕ → ℤ) (a : List ℤ) : Type 0 where
  pub values : (row : ℕ) → row < 4 → value_at a row ≡ value row
  pub within : (row : ℕ) → row < 4 → IsWithin n (value_at a row)

pub columns_are : (n : ℕ) (value : ℕ → ℕ → ℤ) (a b c d : List ℤ) → IsColumn n (λ row. value row 0) a → IsColumn n (λ row. value row 1) b → IsColumn n (λ row. value row 2) c → IsColumn n (λ row. value row 3) d
    → (row column : ℕ) → row < 4 → column < 4 → value_at (by_rows a b c d) (4 * row + column) ≡ value row column
columns_are n value a b c d is_a is_b is_c is_d =
    let R : ℕ → ℕ → Type 0 = λ row column. value_at (by_rows a b c d) (4 * row + column) ≡ value row column in
    let all : (row : ℕ) → row < 4 → (column : ℕ) → column < 4 → R row column =
    by_four (λ row. (column : ℕ) → column < 4 → R row column)
    (by_four (R 0) (is_a.values 0 (lit< tt)) (is_b.values 0 (lit< tt)) (is_c.values 0 (lit< tt)) (is_d.values 0 (lit< tt)))
    (by_four (R 1) (is_a.values 1 (lit< tt)) (is_b.values 1 (lit< tt)) (is_c.values 1 (lit< tt)) (is_d.values 1 (lit< tt)))
    (by_four (R 2) (is_a.values 2 (lit< tt)) (is_b.values 2 (lit< tt)) (is_c.values 2 (lit< tt)) (is_d.values 2 (lit< tt)))
    (by_four (R 3) (is_a.values 3 (lit< tt)) (is_b.values 3 (lit< tt)) (is_c.values 3 (lit< tt)) (is_d.values 3 (lit< tt))) in
    λ row column hr hc. all row hr column hc

-- a row before the rows below it
abbrev row_before : List ℤ → List ℤ → List ℤ → List ℤ → ℕ → List ℤ → List ℤ
row_before a b c d row below = value_at a row ∷ value_at b row ∷ value_at c row ∷ value_at d row ∷ below

pub columns_within : (n : ℕ) (value : ℕ → ℕ → ℤ) (a b c d : List ℤ) → IsColumn n (λ row. value row 0) a → IsColumn n (λ row. value row 1) b → IsColumn n (λ row. value row 2) c → IsColumn n (λ row. value row 3) d
    → AreWithin n (by_rows a b c d)
columns_within n value a b c d is_a is_b is_c is_d =
    let row_of : (row : ℕ) → row < 4 → (below : List ℤ) → AreWithin n below → AreWithin n (row_before a b c d row below) =
    λ row h below. within_four n _ _ _ _ below (is_a.within row h) (is_b.within row h) (is_c.within row h) (is_d.within row h) in
    let third : List ℤ = row_before a b c d 3 [] in
    let second : List ℤ = row_before a b c d 2 third in
    row_of 0 (lit< tt) (row_before a b c d 1 second) (row_of 1 (lit< tt) second (row_of 2 (lit< tt) third (row_of 3 (lit< tt) [] (within_none n))))
