-- Lists of changed elements.
use Rattle.std.proofs.Common.{◌≡◌, ℕ, zero, suc, ◌||◌, Bool, List, [], ◌∷◌, length, map, set, slice_get, Some, option_map, refl, sym, ap, ◌∙◌, arith}
use Rattle.std.specs.List.{list_any}
use Rattle.std.proofs.lemmas.Option.{none-some, slice_get-map}
use Rattle.driver_objects.proofs.Lists.{element_is}

module _ {X Y : Type 0} (change : X → Y) where
  -- what stands in a list of changed elements is a change of what stood there
  pub get_map : (xs : List X) (i : ℕ) (y : Y) → slice_get (map change xs) i ≡ Some y → (x : X) × (slice_get xs i ≡ Some x) × (change x ≡ y)
  get_map [] i y at = absurd (none-some y at)
  get_map (x ∷ xs) zero y at = (x, refl, element_is (change x) y at)
  get_map (x ∷ xs) (suc i) y at = get_map xs i y at

  pub map_get : (xs : List X) (i : ℕ) (x : X) → slice_get xs i ≡ Some x → slice_get (map change xs) i ≡ Some (change x)
  map_get xs i x at = slice_get-map change xs i ∙ ap (option_map change) at

  -- a list that has the change at each place is the list of changes
  pub all_changed : (xs : List X) (ys : List Y) → length ys ≡ length xs → ((i : ℕ) (x : X) → slice_get xs i ≡ Some x → slice_get ys i ≡ Some (change x)) → ys ≡ map change xs
  all_changed [] [] same each = refl
  all_changed [] (y ∷ ys) same each = absurd (omega (arith, same))
  all_changed (x ∷ xs) [] same each = absurd (omega (arith, same))
  all_changed (x ∷ xs) (y ∷ ys) same each =
      let first : y ≡ change x = element_is y (change x) (each 0 x refl) in
      let rest : ys ≡ map change xs = all_changed xs ys (omega (arith, same)) (λ i. each (suc i)) in
      λ k. first k ∷ rest k

  -- what leaves the change of an element as it is leaves the list of changes
  pub map_set : (xs : List X) (i : ℕ) (x y : X) → slice_get xs i ≡ Some x → change y ≡ change x → map change (set xs i y) ≡ map change xs
  map_set [] i x y at same = absurd (none-some x at)
  map_set (z ∷ xs) zero x y at same = ap (λ first. first ∷ map change xs) (same ∙ ap change (sym (element_is z x at)))
  map_set (z ∷ xs) (suc i) x y at same = ap (λ rest. change z ∷ rest) (map_set xs i x y at same)

  pub any_map : (test : Y → Bool) (xs : List X) → list_any test (map change xs) ≡ list_any (λ x. test (change x)) xs
  any_map test [] = refl
  any_map test (x ∷ xs) = ap (λ b. test (change x) || b) (any_map test xs)
