-- Lists whose elements are apart by a number.
use Rattle.std.proofs.Common.{◌≡◌, ◌≢◌, ◌⊎◌, inl, inr, ℕ, zero, suc, ◌<◌, Bool, true, false, List, [], ◌∷◌, filter, map, remove, slice_get, Some, AllPairs, refl, sym, ap, ◌∙◌, arith}
use Rattle.std.specs.List.{AllPairs}
use Rattle.std.proofs.lemmas.Option.{get_or_from_slice_get, slice_get_within}
use Rattle.driver_objects.proofs.Filters.{filter_all, filter_remove}
use Rattle.driver_objects.proofs.Maps.{map_get}
use Rattle.driver_objects.proofs.Removed.{stood_before, stood_elsewhere}

order : (i j : ℕ) → (i < j) ⊎ ((i ≡ j) ⊎ (j < i))
order i j = grind arith

module _ {X : Type 0} where
  pub map_remove : {Y : Type 0} (f : X → Y) (xs : List X) (i : ℕ) → map f (remove xs i) ≡ remove (map f xs) i
  map_remove f [] zero = refl
  map_remove f [] (suc i) = refl
  map_remove f (x ∷ xs) zero = refl
  map_remove f (x ∷ xs) (suc i) = ap (λ rest. f x ∷ rest) (map_remove f xs i)

  differ : (f : X → ℕ) (xs : List X) → AllPairs (λ a b. a ≢ b) (map f xs) → (i j : ℕ) (a b : X) → slice_get xs i ≡ Some a → slice_get xs j ≡ Some b → i < j → f a ≢ f b
  differ f xs apart i j a b at bt before same =
      let fa = map_get f xs i a at in
      let fb = map_get f xs j b bt in
      apart i j 0 before (slice_get_within (map f xs) j (f b) fb) (get_or_from_slice_get (map f xs) i (f a) 0 fa ∙ (same ∙ sym (get_or_from_slice_get (map f xs) j (f b) 0 fb)))

  -- one number stands at one place
  pub one_index : (f : X → ℕ) (xs : List X) → AllPairs (λ a b. a ≢ b) (map f xs) → (i j : ℕ) (a b : X) → slice_get xs i ≡ Some a → slice_get xs j ≡ Some b → f a ≡ f b → i ≡ j
  one_index f xs apart i j a b at bt same = elim (order i j) [
    | inl before ↦ absurd (differ f xs apart i j a b at bt before same)
    | inr rest ↦ elim rest [
      | inl here ↦ here
      | inr behind ↦ absurd (differ f xs apart j i b a bt at behind (sym same))
    ]
  ]

  -- where just one fails the test, that one is taken out
  pub filter_only : (test : X → Bool) (xs : List X) (i : ℕ) (x : X) → slice_get xs i ≡ Some x → test x ≡ false
      → ((j : ℕ) (y : X) → slice_get xs j ≡ Some y → j ≢ i → test y ≡ true) → filter test xs ≡ remove xs i
  filter_only test xs i x at fails others =
      sym (filter_remove test xs i x at fails)
      ∙ filter_all test (remove xs i) (λ j y there. let s = stood_before xs i j y there in others s.place y s.stood (stood_elsewhere xs i j y s))
