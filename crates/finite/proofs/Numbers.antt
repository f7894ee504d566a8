-- Numbers below a bound, and what is decided of all of them.
use Rattle.std.proofs.Common.{◌≡◌, ℕ, zero, suc, ◌<◌, ◌≤◌, ◌⊎◌, inl, inr, sym, subst, arith, ℤ, pos, negsuc, unsigned_abs, ◌+◌, ◌≤ℤ◌}
use Rattle.std.proofs.lemmas.Int.{ints}
use Rattle.std.proofs.lemmas.Bool.{cases_eq}
use Rattle.finite.specs.Decided.{Decided}
use Rattle.finite.specs.Finite.{Finite}
use Rattle.finite.proofs.Deciding.{both, decided_as, either}
use Rattle.finite.proofs.Equal.{below, integer_at_most}
use Rattle.finite.proofs.Sets.{narrower}

IsFound : (ℕ → Type 0) → ℕ → Type 0
IsFound Q n = (x : ℕ) × (x < n) × Q x

one_more : (Q : ℕ → Type 0) (n : ℕ) → Q n ⊎ IsFound Q n → IsFound Q (suc n)
unfolding IsFound
one_more Q n (inl q) = (n, omega arith, q)
one_more Q n (inr found) = (found.0, (let h : found.0 < n = found.1 in omega arith), found.2)

last_or_before : (Q : ℕ → Type 0) (n : ℕ) → IsFound Q (suc n) → Q n ⊎ IsFound Q n
unfolding IsFound
last_or_before Q n found = at (cases_eq found.0 n)
  where
    at : (found.0 ≡ n) ⊎ (found.0 ≡ n → ⊥) → Q n ⊎ IsFound Q n
    at (inl e) = inl (subst Q e found.2)
    at (inr other) = let h : found.0 < suc n = found.1 in inr (found.0, omega arith, found.2)

find_below : (n : ℕ) (Q : ℕ → Type 0) → ((x : ℕ) → x < n → Decided (Q x)) → Decided (IsFound Q n)
unfolding IsFound
find_below zero Q decide = inr (λ found. let h : found.0 < 0 = found.1 in omega arith)
find_below (suc n) Q decide =
    decided_as (one_more Q n) (last_or_before Q n) (either (decide n (omega arith)) (find_below n Q (λ x h. decide x (omega arith))))

pub numbers_below : (n : ℕ) → Finite (λ (x : ℕ). x < n)
unfolding IsFound
numbers_below n = record { find = find_below n }

pub numbers_up_to : (n : ℕ) → Finite (λ (x : ℕ). x ≤ n)
numbers_up_to n = record {
  find = λ Q each. decided_as
      (λ found. (found.0, (let h : found.0 < suc n = found.1 in omega arith), found.2))
      (λ found. (found.0, (let h : found.0 ≤ n = found.1 in omega arith), found.2))
      ((numbers_below (suc n)).find Q (λ x h. each x (omega arith)));
}

FoundBelow : (ℤ → Type 0) → ℕ → Type 0
FoundBelow Q n = (z : ℤ) × (unsigned_abs z < n) × Q z

Positive : (ℤ → Type 0) → ℕ → Type 0
Positive Q n = (k : ℕ) × (k < n) × Q (pos k)

Negative : (ℤ → Type 0) → ℕ → Type 0
Negative Q n = (k : ℕ) × (k < n) × ((unsigned_abs (negsuc k) < n) × Q (negsuc k))

with_sign : (Q : ℤ → Type 0) (n : ℕ) → Positive Q n ⊎ Negative Q n → FoundBelow Q n
unfolding FoundBelow Positive Negative
with_sign Q n (inl found) = (pos found.0, found.1, found.2)
with_sign Q n (inr found) = (negsuc found.0, found.2.0, found.2.1)

by_sign : (Q : ℤ → Type 0) (n : ℕ) (z : ℤ) → unsigned_abs z < n → Q z → Positive Q n ⊎ Negative Q n
unfolding Positive Negative
by_sign Q n (pos k) small q = inl (k, small, q)
by_sign Q n (negsuc k) small q = inr (k, omega arith, (small, q))

-- integers by their absolute value
pub integers_below : (n : ℕ) → Finite (λ (z : ℤ). unsigned_abs z < n)
unfolding FoundBelow Positive Negative
integers_below n = record {
  find = λ Q each. decided_as (with_sign Q n) (λ found. by_sign Q n found.0 found.1 found.2)
      (either ((numbers_below n).find (λ k. Q (pos k)) (λ k h. each (pos k) h))
      ((numbers_below n).find (λ k. (unsigned_abs (negsuc k) < n) × Q (negsuc k))
      (λ k h. both (below (unsigned_abs (negsuc k)) n) (λ small. each (negsuc k) small))));
}

in_range : (least greatest z : ℤ) → least ≤ℤ z → z ≤ℤ greatest → unsigned_abs z < suc (unsigned_abs least + unsigned_abs greatest)
in_range (pos a) (pos b) (pos n) low high = omega (arith, ints)
in_range (pos a) (pos b) (negsuc n) low high = omega (arith, ints)
in_range (pos a) (negsuc b) (pos n) low high = omega (arith, ints)
in_range (pos a) (negsuc b) (negsuc n) low high = omega (arith, ints)
in_range (negsuc a) (pos b) (pos n) low high = omega (arith, ints)
in_range (negsuc a) (pos b) (negsuc n) low high = omega (arith, ints)
in_range (negsuc a) (negsuc b) (pos n) low high = omega (arith, ints)
in_range (negsuc a) (negsuc b) (negsuc n) low high = omega (arith, ints)

-- integers of a range
pub integers_between : (least greatest : ℤ) → Finite (λ (z : ℤ). (least ≤ℤ z) × (z ≤ℤ greatest))
integers_between least greatest =
    narrower (λ (z : ℤ). (least ≤ℤ z) × (z ≤ℤ greatest)) (integers_below (suc (unsigned_abs least + unsigned_abs greatest)))
    (λ z small. both (integer_at_most least z) (λ low. integer_at_most z greatest)) (λ z h. in_range least greatest z h.0 h.1)

every_to : (P : ℕ → Type 0) (n : ℕ) → P n → ((k : ℕ) → k < n → P k) → (k : ℕ) → k < suc n → P k
every_to P n last others k h = elim (cases_eq k n) [ inl e ↦ subst P (sym e) last | inr other ↦ others k (omega arith) ]

-- what holds of every number below a bound
pub every_below : (P : ℕ → Type 0) (n : ℕ) → ((k : ℕ) → k < n → Decided (P k)) → Decided ((k : ℕ) → k < n → P k)
every_below P zero decide = inl (λ k h. let none : ⊥ = omega arith in absurd none)
every_below P (suc n) decide =
    decided_as (λ h. every_to P n h.0 h.1) (λ every. (every n (omega arith), λ k h. every k (omega arith)))
    (both (decide n (omega arith)) (λ last. every_below P n (λ k h. decide k (omega arith))))
