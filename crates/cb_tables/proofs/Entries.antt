-- The code's tables: the rows of the standard, filled up to one length.
use Rattle.std.proofs.Common.{◌≡◌, ℕ, zero, suc, ◌-◌, get_or, List, [], ◌∷◌, ◌++◌, length, replicate, refl, sym, ap, subst}
use Rattle.cb_tables.specs.Codes.{code_at, code_of}

abbrev filled : ℕ → List (ℕ × ℕ) → List (ℕ × ℕ)
filled n row = row ++ replicate (n - length row) (0, 0)

abbrev pub filled_rows : ℕ → List (List (ℕ × ℕ)) → List (List (ℕ × ℕ))
filled_rows n [] = []
filled_rows n (row ∷ rows) = filled n row ∷ filled_rows n rows

none_at : {X : Type 0} (x : X) (m j : ℕ) → get_or (replicate m x) j x ≡ x
none_at x zero j = refl
none_at x (suc m) zero = refl
none_at x (suc m) (suc j) = none_at x m j

filled_at : (row : List (ℕ × ℕ)) (m j : ℕ) → get_or (row ++ replicate m (0, 0)) j (0, 0) ≡ get_or row j (0, 0)
filled_at [] m j = none_at (0, 0) m j
filled_at (x ∷ row) m zero = refl
filled_at (x ∷ row) m (suc j) = filled_at row m j

filled_rows_at : (n : ℕ) (rows : List (List (ℕ × ℕ))) (i j : ℕ) → get_or (get_or (filled_rows n rows) i []) j (0, 0) ≡ get_or (get_or rows i []) j (0, 0)
filled_rows_at n [] i j = refl
filled_rows_at n (row ∷ rows) zero j = filled_at row (n - length row) j
filled_rows_at n (row ∷ rows) (suc i) j = filled_rows_at n rows i j

pub entry_of : (n : ℕ) (rows : List (List (ℕ × ℕ))) (table : List (List (ℕ × ℕ))) → table ≡ filled_rows n rows → (i j : ℕ) → code_of (get_or (get_or table i []) j (0, 0)) ≡ code_at rows i j
unfolding code_at
entry_of n rows table e i j = subst (λ (t : List (List (ℕ × ℕ))). code_of (get_or (get_or t i []) j (0, 0)) ≡ code_of (get_or (get_or rows i []) j (0, 0))) (sym e) (ap code_of (filled_rows_at n rows i j))
