-- How large levels and given DC values may be.
use Rattle.std.specs.Prelude.{ℕ, ℤ, pos, neg_ℤ, ◌≤ℤ◌, List}
use Rattle.std.specs.List.{All}

-- from -n to n
pub record IsWithin (n : ℕ) (z : ℤ) : Type 0 where
  pub least : neg_ℤ (pos n) ≤ℤ z
  pub most : z ≤ℤ pos n

-- each is within n
abbrev pub AreWithin : ℕ → List ℤ → Type 0
AreWithin n zs = All (IsWithin n) zs
