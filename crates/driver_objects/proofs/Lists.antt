-- Elements of lists by their places, and how a list's changes show there.
use Rattle.std.proofs.Common.{◌≡◌, ◌≢◌, ℕ, zero, suc, ◌+◌, ◌<◌, ◌≤◌, ◌⊎◌, inl, inr, ◌||◌, Bool, true, false, if◌then◌else◌, List, [], ◌∷◌, ◌++◌, length, set, slice_get, Some, unwrap_or, refl, sym, ap, ◌∙◌, arith}
use mathlib.Core.Bool.{false≢true}
use Rattle.std.specs.List.{count_by, list_any, remove}
use Rattle.std.proofs.lemmas.List.Sums.{sum_by-append, sum_by-remove, sum_by-set}
use Rattle.std.proofs.lemmas.Option.{get_or_from_slice_get, none-some, slice_get_within}

module _ {X : Type 0} where
  pub get_set_same : (xs : List X) (i : ℕ) (x y : X) → slice_get xs i ≡ Some x → slice_get (set xs i y) i ≡ Some y
  get_set_same [] i x y stands = absurd (none-some x stands)
  get_set_same (z ∷ xs) zero x y stands = refl
  get_set_same (z ∷ xs) (suc i) x y stands = get_set_same xs i x y stands

  pub get_set_other : (xs : List X) (i j : ℕ) (y : X) → j ≢ i → slice_get (set xs i y) j ≡ slice_get xs j
  get_set_other [] i j y apart = refl
  get_set_other (z ∷ xs) zero zero y apart = absurd (apart refl)
  get_set_other (z ∷ xs) zero (suc j) y apart = refl
  get_set_other (z ∷ xs) (suc i) zero y apart = refl
  get_set_other (z ∷ xs) (suc i) (suc j) y apart = get_set_other xs i j y (λ same. apart (ap suc same))

  -- an element is one alone
  pub element_is : (x y : X) → Some x ≡ Some y → x ≡ y
  element_is x y e = ap (λ o. unwrap_or o x) e

  -- what stands at one place of a list is one element
  pub one_kept : (xs : List X) (i : ℕ) (x y : X) → slice_get xs i ≡ Some x → slice_get xs i ≡ Some y → x ≡ y
  one_kept xs i x y here there = element_is x y (sym here ∙ there)

  -- what stands in a list behind a change stands at the place of the change, or stood there before
  pub get_set : (xs : List X) (at i : ℕ) (y x : X) → slice_get (set xs at y) i ≡ Some x → ((i ≡ at) × (y ≡ x)) ⊎ ((i ≢ at) × (slice_get xs i ≡ Some x))
  get_set [] at i y x stands = absurd (none-some x stands)
  get_set (z ∷ xs) zero zero y x stands = inl (refl, element_is y x stands)
  get_set (z ∷ xs) zero (suc i) y x stands = inr (λ e. omega (arith, e), stands)
  get_set (z ∷ xs) (suc at) zero y x stands = inr (λ e. omega (arith, e), stands)
  get_set (z ∷ xs) (suc at) (suc i) y x stands = elim (get_set xs at i y x stands) [
    | inl here ↦ inl (ap suc here.0, here.1)
    | inr there ↦ inr (λ e. there.0 (omega (arith, e)), there.1)
  ]

  pub get_set_apart : (xs : List X) (at i : ℕ) (y x : X) → i ≢ at → slice_get xs i ≡ Some x → slice_get (set xs at y) i ≡ Some x
  get_set_apart xs at i y x apart stands = get_set_other xs at i y apart ∙ stands

  -- behind a place nothing changes, and one place further
  pub get_remove_before : (xs : List X) (i j : ℕ) → j < i → slice_get (remove xs i) j ≡ slice_get xs j
  get_remove_before [] zero j below = absurd (omega (arith, below))
  get_remove_before [] (suc i) j below = refl
  get_remove_before (z ∷ xs) zero j below = absurd (omega (arith, below))
  get_remove_before (z ∷ xs) (suc i) zero below = refl
  get_remove_before (z ∷ xs) (suc i) (suc j) below = get_remove_before xs i j (omega (arith, below))

  pub get_remove_behind : (xs : List X) (i j : ℕ) → i ≤ j → slice_get (remove xs i) j ≡ slice_get xs (suc j)
  get_remove_behind [] zero j behind = refl
  get_remove_behind [] (suc i) j behind = refl
  get_remove_behind (z ∷ xs) zero j behind = refl
  get_remove_behind (z ∷ xs) (suc i) zero behind = absurd (omega (arith, behind))
  get_remove_behind (z ∷ xs) (suc i) (suc j) behind = get_remove_behind xs i j (omega (arith, behind))

  -- what stands in a list that has grown stood there before, or is the last
  pub at_append : (xs : List X) (y x : X) (j : ℕ) → slice_get (xs ++ y ∷ []) j ≡ Some x → ((j < length xs) × (slice_get xs j ≡ Some x)) ⊎ ((j ≡ length xs) × (y ≡ x))
  at_append [] y x zero stands = inr (refl, element_is y x stands)
  at_append [] y x (suc j) stands = absurd (none-some x stands)
  at_append (z ∷ xs) y x zero stands = inl (omega arith, stands)
  at_append (z ∷ xs) y x (suc j) stands = elim (at_append xs y x j stands) [
    | inl before ↦ inl (omega (arith, before.0), before.1)
    | inr last ↦ inr (ap suc last.0, last.1)
  ]

  pub count_append : (test : X → Bool) (xs : List X) (y : X) → count_by test (xs ++ y ∷ []) ≡ count_by test xs + (if test y then 1 else 0)
  count_append test xs y = grind (arith, sum_by-append (λ x. if test x then 1 else 0) xs (y ∷ []))

  -- a change that doesn't touch the test leaves the count
  pub count_set : (test : X → Bool) (xs : List X) (i : ℕ) (x y : X) → slice_get xs i ≡ Some x → count_by test (set xs i y) + (if test x then 1 else 0) ≡ count_by test xs + (if test y then 1 else 0)
  count_set test xs i x y stands = grind (arith, sum_by-set (λ x. if test x then 1 else 0) xs i y x (slice_get_within xs i x stands), get_or_from_slice_get xs i x x stands)

  pub count_remove : (test : X → Bool) (xs : List X) (i : ℕ) (x : X) → slice_get xs i ≡ Some x → count_by test (remove xs i) + (if test x then 1 else 0) ≡ count_by test xs
  count_remove test xs i x stands = grind (arith, sum_by-remove (λ x. if test x then 1 else 0) xs i x (slice_get_within xs i x stands), get_or_from_slice_get xs i x x stands)

  -- ---- tests

  pub any_at : (test : X → Bool) (xs : List X) (i : ℕ) (x : X) → slice_get xs i ≡ Some x → test x ≡ true → list_any test xs ≡ true
  any_at test [] i x at passes = absurd (none-some x at)
  any_at test (y ∷ xs) zero x at passes = ap (λ b. b || list_any test xs) (ap test (element_is y x at) ∙ passes)
  any_at test (y ∷ xs) (suc i) x at passes = grind (arith, any_at test xs i x at passes)

  -- an element of a list that passes a test
  pub some_passes : (test : X → Bool) (xs : List X) → list_any test xs ≡ true → (i : ℕ) × (x : X) × (slice_get xs i ≡ Some x) × (test x ≡ true)
  some_passes test [] any = absurd (false≢true any)
  some_passes test (first ∷ later) any = go (test first) refl (some_passes test later) any where
    go : (b : Bool) → test first ≡ b → (list_any test later ≡ true → (i : ℕ) × (x : X) × (slice_get later i ≡ Some x) × (test x ≡ true))
        → (b || list_any test later) ≡ true → (i : ℕ) × (x : X) × (slice_get (first ∷ later) i ≡ Some x) × (test x ≡ true)
    go true t further e = (0, first, refl, t)
    go false t further e = let f = further e in (suc f.0, f.1, f.2, f.3)

  pub any_append : (test : X → Bool) (xs : List X) (y : X) → list_any test (xs ++ y ∷ []) ≡ (list_any test xs || test y)
  any_append test [] y = grind arith
  any_append test (x ∷ xs) y = grind (arith, any_append test xs y)

  -- a test that doesn't tell the two apart is passed as before
  pub any_set : (test : X → Bool) (xs : List X) (at : ℕ) (x y : X) → slice_get xs at ≡ Some x → test y ≡ test x → list_any test (set xs at y) ≡ list_any test xs
  any_set test [] at x y stands same = absurd (none-some x stands)
  any_set test (z ∷ xs) zero x y stands same = ap (λ b. b || list_any test xs) (same ∙ ap test (sym (element_is z x stands)))
  any_set test (z ∷ xs) (suc at) x y stands same = ap (λ b. test z || b) (any_set test xs at x y stands same)
