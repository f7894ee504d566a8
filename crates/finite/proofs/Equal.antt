-- Equations are decided.
use Rattle.std.proofs.Common.{◌≡◌, ℕ, ◌<◌, ◌≤◌, inl, inr, Bool, true, false, List, [], ◌∷◌, Option, Some, None, refl, arith, ℤ, ◌≤ℤ◌, T}
use Rattle.std.specs.Int.Signed.{le_z, le_z_yes}
use Rattle.std.specs.Ordering.{int_eq}
use Rattle.std.proofs.lemmas.Bool.{cases_eq, cases_lt}
use Rattle.std.proofs.lemmas.Bool.Decides.{Decides-int_eq}
use Rattle.finite.specs.Decided.{Decided}
use Rattle.finite.proofs.Deciding.{both, decided_as, tested}

pub equal_numbers : (a b : ℕ) → Decided (a ≡ b)
equal_numbers a b = cases_eq a b

pub at_most : (a b : ℕ) → Decided (a ≤ b)
at_most a b = elim (cases_lt b a) [ inl less ↦ inr (λ h. omega arith) | inr h ↦ inl h ]

pub below : (a b : ℕ) → Decided (a < b)
below a b = elim (cases_lt a b) [ inl h ↦ inl h | inr most ↦ inr (λ h. omega arith) ]

pub equal_integers : (a b : ℤ) → Decided (a ≡ b)
equal_integers a b = tested (int_eq a b) (Decides-int_eq a b)

true_test : (b : Bool) → Decided (T b)
true_test true = inl tt
true_test false = inr (λ h. h)

pub integer_at_most : (a b : ℤ) → Decided (a ≤ℤ b)
integer_at_most a b = decided_as (λ h. le_z_yes h) (λ h. h.le) (true_test (le_z a b))

pub equal_booleans : (a b : Bool) → Decided (a ≡ b)
equal_booleans true true = inl refl
equal_booleans true false = inr (λ e. absurd cc)
equal_booleans false true = inr (λ e. absurd cc)
equal_booleans false false = inl refl

pub equal_lists : {A : Type 0} → ((a b : A) → Decided (a ≡ b)) → (xs ys : List A) → Decided (xs ≡ ys)
equal_lists decide [] [] = inl refl
equal_lists decide [] (y ∷ ys) = inr (λ e. absurd cc)
equal_lists decide (x ∷ xs) [] = inr (λ e. absurd cc)
equal_lists decide (x ∷ xs) (y ∷ ys) =
    decided_as (λ h. cons_same x y xs ys h.0 h.1) (λ e. (head_same x y xs ys e, tail_same x y xs ys e))
    (both (decide x y) (λ e. equal_lists decide xs ys))
  where
    cons_same : {A : Type 0} (x y : A) (xs ys : List A) → x ≡ y → xs ≡ ys → x ∷ xs ≡ y ∷ ys
    cons_same x y xs ys e f = cc

    head_same : {A : Type 0} (x y : A) (xs ys : List A) → x ∷ xs ≡ y ∷ ys → x ≡ y
    head_same x y xs ys e = cc

    tail_same : {A : Type 0} (x y : A) (xs ys : List A) → x ∷ xs ≡ y ∷ ys → xs ≡ ys
    tail_same x y xs ys e = cc

pub equal_bits : (xs ys : List Bool) → Decided (xs ≡ ys)
equal_bits = equal_lists equal_booleans

pub is_none : {A : Type 0} (found : Option A) → Decided (found ≡ None)
is_none None = inl refl
is_none (Some a) = inr (λ e. absurd cc)
