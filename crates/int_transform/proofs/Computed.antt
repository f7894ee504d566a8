-- A test at each number below a bound: it computes, and then it holds at each.
use Rattle.std.proofs.Common.{◌≡◌, ℕ, zero, suc, ◌<◌, Bool, true, ◌&&◌, subst, arith, inl, inr}
use Rattle.std.proofs.lemmas.Bool.{cases_lt, and_parts}

abbrev pub all_below : (ℕ → Bool) → ℕ → Bool
all_below test zero = true
all_below test (suc n) = test n && all_below test n

pub each_below : (test : ℕ → Bool) (n k : ℕ) → all_below test n ≡ true → k < n → test k ≡ true
each_below test zero k h below = absurd (omega arith)
each_below test (suc n) k h below =
    let parts = and_parts (test n) (all_below test n) h in
    elim (cases_lt k n) [
      | inl lower ↦ each_below test n k parts.1 lower
      | inr last ↦ let same : n ≡ k = omega arith in subst (λ (x : ℕ). test x ≡ true) same parts.0
    ]
