-- Lists of which only what passes a test stays.
use Rattle.std.proofs.Common.{◌≡◌, inl, inr, ℕ, zero, suc, Bool, true, false, if◌then◌else◌, List, [], ◌∷◌, filter, remove, slice_get, Some, refl, sym, ap, ◌∙◌}
use Rattle.std.proofs.lemmas.Option.{none-some}
use Rattle.driver_objects.proofs.Cases.{below_or_not}
use Rattle.driver_objects.proofs.Lists.{element_is, get_remove_before, get_remove_behind}

module _ {X : Type 0} (test : X → Bool) where
  -- an element that passes
  pub record IsPassing (xs : List X) (x : X) : Type 0 where
    pub index : ℕ
    pub there : slice_get xs index ≡ Some x
    pub passes : test x ≡ true

  one_more : (y : X) (xs : List X) (x : X) → IsPassing xs x → IsPassing (y ∷ xs) x
  one_more y xs x p = record { index = suc p.index; there = p.there; passes = p.passes }

  -- what stays stood there before, and passes
  pub get_filter : (xs : List X) (i : ℕ) (x : X) → slice_get (filter test xs) i ≡ Some x → IsPassing xs x
  get_filter [] i x at = absurd (none-some x at)
  get_filter (y ∷ xs) i x at = by_first (test y) refl (get_filter xs) i at where
    by_first : (b : Bool) → test y ≡ b → ((i : ℕ) (x : X) → slice_get (filter test xs) i ≡ Some x → IsPassing xs x)
        → (i : ℕ) → slice_get (if b then y ∷ filter test xs else filter test xs) i ≡ Some x → IsPassing (y ∷ xs) x
    by_first true e rest zero at = record { index = 0; there = at; passes = ap test (sym (element_is y x at)) ∙ e }
    by_first true e rest (suc i) at = one_more y xs x (rest i x at)
    by_first false e rest i at = one_more y xs x (rest i x at)

  -- what passes stays
  pub filter_get : (xs : List X) (j : ℕ) (x : X) → slice_get xs j ≡ Some x → test x ≡ true → (i : ℕ) × (slice_get (filter test xs) i ≡ Some x)
  filter_get [] j x at passes = absurd (none-some x at)
  filter_get (y ∷ xs) zero x at passes =
      (0, ap (λ b. slice_get (if b then y ∷ filter test xs else filter test xs) 0) (ap test (element_is y x at) ∙ passes) ∙ at)
  filter_get (y ∷ xs) (suc j) x at passes = by_first (test y) (filter_get xs j x at passes) where
    by_first : (b : Bool) → ((i : ℕ) × (slice_get (filter test xs) i ≡ Some x)) → (i : ℕ) × (slice_get (if b then y ∷ filter test xs else filter test xs) i ≡ Some x)
    by_first true rest = (suc rest.0, rest.1)
    by_first false rest = rest

  pub filter_all : (xs : List X) → ((i : ℕ) (x : X) → slice_get xs i ≡ Some x → test x ≡ true) → filter test xs ≡ xs
  filter_all [] passes = refl
  filter_all (x ∷ xs) passes =
      ap (λ b. if b then x ∷ filter test xs else filter test xs) (passes 0 x refl) ∙ ap (λ rest. x ∷ rest) (filter_all xs (λ i. passes (suc i)))

  -- one that fails may be removed before
  pub filter_remove : (xs : List X) (i : ℕ) (x : X) → slice_get xs i ≡ Some x → test x ≡ false → filter test (remove xs i) ≡ filter test xs
  filter_remove [] i x at fails = absurd (none-some x at)
  filter_remove (y ∷ xs) zero x at fails = sym (ap (λ b. if b then y ∷ filter test xs else filter test xs) (ap test (element_is y x at) ∙ fails))
  filter_remove (y ∷ xs) (suc i) x at fails = ap (λ rest. if test y then y ∷ rest else rest) (filter_remove xs i x at fails)

module _ {X : Type 0} where
  -- what stands in a list from which one was removed stood there before
  pub get_remove : (xs : List X) (i j : ℕ) (x : X) → slice_get (remove xs i) j ≡ Some x → (k : ℕ) × (slice_get xs k ≡ Some x)
  get_remove xs i j x at = elim (below_or_not j i) [
    | inl before ↦ (j, sym (get_remove_before xs i j before) ∙ at)
    | inr behind ↦ (suc j, sym (get_remove_behind xs i j behind) ∙ at)
  ]
