-- Lists from which one element is taken out.
use Rattle.std.proofs.Common.{◌≡◌, ◌≢◌, ◌⊎◌, inl, inr, ℕ, zero, suc, ◌<◌, ◌≤◌, ◌||◌, Bool, false, List, [], ◌∷◌, set, slice_get, Some, refl, sym, ap, ◌∙◌, arith}
use Rattle.std.specs.List.{list_any, remove}
use Rattle.std.proofs.lemmas.Option.{none-some}
use Rattle.driver_objects.proofs.Cases.{below_or_not}
use Rattle.driver_objects.proofs.Lists.{element_is, get_remove_before, get_remove_behind}

module _ {X : Type 0} where
  -- it doesn't matter what stood there
  pub remove_set : (xs : List X) (at : ℕ) (y : X) → remove (set xs at y) at ≡ remove xs at
  remove_set [] zero y = refl
  remove_set [] (suc at) y = refl
  remove_set (z ∷ xs) zero y = refl
  remove_set (z ∷ xs) (suc at) y = ap (λ rest. z ∷ rest) (remove_set xs at y)

  -- where an element stood that is still there
  pub record Stood (xs : List X) (at i : ℕ) (x : X) : Type 0 where
    pub place : ℕ
    pub stood : slice_get xs place ≡ Some x
    pub either : ((i < at) × (place ≡ i)) ⊎ ((at ≤ i) × (place ≡ suc i))

  pub stood_before : (xs : List X) (at i : ℕ) (x : X) → slice_get (remove xs at) i ≡ Some x → Stood xs at i x
  stood_before xs at i x is = elim (below_or_not i at) [
    | inl below ↦ record { place = i; stood = sym (get_remove_before xs at i below) ∙ is; either = inl (below, refl) }
    | inr behind ↦ record { place = suc i; stood = sym (get_remove_behind xs at i behind) ∙ is; either = inr (behind, refl) }
  ]

  pub stood_elsewhere : (xs : List X) (at i : ℕ) (x : X) (s : Stood xs at i x) → s.place ≢ at
  stood_elsewhere xs at i x s = let e = s.either in grind (arith, e)

  -- two places that come from one are one
  pub one_place : (xs : List X) (at i j : ℕ) (x y : X) (s : Stood xs at i x) (t : Stood xs at j y) → s.place ≡ t.place → i ≡ j
  one_place xs at i j x y s t same = let a = s.either in let b = t.either in grind (arith, a, b, same)

  -- each other element is still there
  pub stays : (xs : List X) (at i : ℕ) (x : X) → i ≢ at → slice_get xs i ≡ Some x → (j : ℕ) × (slice_get (remove xs at) j ≡ Some x)
  stays xs at zero x apart is = (zero, get_remove_before xs at zero (omega (arith, apart)) ∙ is)
  stays xs at (suc i) x apart is = elim (below_or_not (suc i) at) [
    | inl below ↦ (suc i, get_remove_before xs at (suc i) below ∙ is)
    | inr behind ↦ (i, get_remove_behind xs at i (omega (arith, apart, behind)) ∙ is)
  ]

  -- one that fails a test isn't missed by it
  pub any_remove : (test : X → Bool) (xs : List X) (at : ℕ) (x : X) → slice_get xs at ≡ Some x → test x ≡ false → list_any test (remove xs at) ≡ list_any test xs
  any_remove test [] at x is fails = absurd (none-some x is)
  any_remove test (z ∷ xs) zero x is fails = ap (λ b. b || list_any test xs) (sym fails ∙ ap test (sym (element_is z x is)))
  any_remove test (z ∷ xs) (suc at) x is fails = ap (λ b. test z || b) (any_remove test xs at x is fails)
