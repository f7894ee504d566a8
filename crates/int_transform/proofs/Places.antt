-- The places of a block, one by one.
use Rattle.std.proofs.Common.{ℕ, zero, suc, ◌<◌, ℤ, List, [], ◌∷◌, arith}
use Rattle.int_transform.specs.Bounds.{AreWithin, IsWithin}

-- what holds in each of four columns holds in every column
pub by_four : (P : ℕ → Type 0) → P 0 → P 1 → P 2 → P 3 → (k : ℕ) → k < 4 → P k
by_four P p0 p1 p2 p3 zero h = p0
by_four P p0 p1 p2 p3 (suc zero) h = p1
by_four P p0 p1 p2 p3 (suc (suc zero)) h = p2
by_four P p0 p1 p2 p3 (suc (suc (suc zero))) h = p3
by_four P p0 p1 p2 p3 (suc (suc (suc (suc k)))) h = absurd (omega arith)

pub by_two : (P : ℕ → Type 0) → P 0 → P 1 → (k : ℕ) → k < 2 → P k
by_two P p0 p1 zero h = p0
by_two P p0 p1 (suc zero) h = p1
by_two P p0 p1 (suc (suc k)) h = absurd (omega arith)

pub within_none : (n : ℕ) → AreWithin n []
within_none n k d h = absurd (omega arith)

pub within_more : (n : ℕ) (x : ℤ) (xs : List ℤ) → IsWithin n x → AreWithin n xs → AreWithin n (x ∷ xs)
within_more n x xs p rest zero d h = p
within_more n x xs p rest (suc k) d h = rest k d (omega arith)

-- four numbers
pub within_four : (n : ℕ) (x0 x1 x2 x3 : ℤ) (xs : List ℤ) → IsWithin n x0 → IsWithin n x1 → IsWithin n x2 → IsWithin n x3 → AreWithin n xs → AreWithin n (x0 ∷ x1 ∷ x2 ∷ x3 ∷ xs)
within_four n x0 x1 x2 x3 xs p0 p1 p2 p3 rest =
    within_more n x0 (x1 ∷ x2 ∷ x3 ∷ xs) p0 (within_more n x1 (x2 ∷ x3 ∷ xs) p1 (within_more n x2 (x3 ∷ xs) p2 (within_more n x3 xs p3 rest)))
