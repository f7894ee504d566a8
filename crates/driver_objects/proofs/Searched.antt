-- What a search by rising places finds, and one by kind and name.
use Rattle.std.proofs.Common.{◌≡◌, ℕ, ◌<◌, ◌≤◌, inl, inr, true, List, length, get_or, slice_get, Some, None, sym, subst, arith}
use Rattle.std.specs.List.{AllWithin, HoldsAt}
use Rattle.std.specs.List.Sorted.{IsNonDecreasingBy}
use Rattle.std.specs.Ordering.{nat_cmp, ordering_index}
use Rattle.std.specs.declared.cmp.Ordering.TheVariants.{Equal, Greater, Less}
use Rattle.std.proofs.lemmas.Bool.Decides.{nat_tests}
use Rattle.std.proofs.lemmas.Cmp.{ranked}
use Rattle.std.proofs.lemmas.Option.{get_or_from_slice_get, slice_get-get_or, slice_get_cases, slice_get_within}
use Rattle.handle_table.specs.Handles.{Handles}
use Rattle.driver_objects.specs.Listed.{IsOnly, is_at}
use Rattle.driver_objects.specs.Sound.{IsSound}
use Rattle.driver_objects.specs.declared.object.Object.{Object}

module _ (names : Handles ℕ) (kept : List Object) (made : ℕ) (sound : IsSound names kept made) where
  -- two objects of one place stand at one place of the list
  pub place_is_one : (i j : ℕ) (a b : Object) → slice_get kept i ≡ Some a → slice_get kept j ≡ Some b → a.place ≡ b.place → j ≡ i
  place_is_one i j a b here there same = grind (arith, sound.rising i j a b, sound.rising j i b a)

  -- two live objects of one name do
  pub name_is_one : (i j : ℕ) (a b : Object) → slice_get kept i ≡ Some a → slice_get kept j ≡ Some b → a.is_live ≡ true → b.is_live ≡ true → a.name ≡ b.name → j ≡ i
  name_is_one i j a b here there live living same = grind (arith, sound.apart i j a b, sound.apart j i b a)

  -- the places rise along the list, as a binary search asks
  pub places_rise : (place : ℕ) → IsNonDecreasingBy (λ object. ordering_index (nat_cmp object.place place)) kept
  places_rise place i j d within below =
      let here = slice_get-get_or kept i d (omega (arith, within, below)) in
      let there = slice_get-get_or kept j d below in
      grind (arith, nat_tests, sound.rising i j (get_or kept i d) (get_or kept j d), here, there)

  only_place : (index : ℕ) (object : Object) → slice_get kept index ≡ Some object → IsOnly (is_at object.place) kept (Some index)
  only_place index object stands = (
    record { object = object; stands = stands; passes = grind (arith, nat_tests) },
    λ other is. place_is_one index other object is.object stands is.stands (grind (arith, nat_tests, is.passes)),
  )

  -- a search that ends at an object of the place has found the one that there is
  pub searched_some : (place index : ℕ) → index < length kept → HoldsAt (λ object. nat_cmp object.place place ≡ Equal) kept index → IsOnly (is_at place) kept (Some index)
  searched_some place index within equal = elim (slice_get_cases kept index).1 [
    | inl is ↦
        let at_place : is.0.place ≡ place = ranked is.0.place place Equal (sym (subst (λ (o : Object). nat_cmp o.place place ≡ Equal) is.3 (equal is.0))) in
        subst (λ k. IsOnly (is_at k) kept (Some index)) at_place (only_place index is.0 is.2)
    | inr past ↦ absurd (omega (arith, past.0, within))
  ]

  -- one that ends between those before the place and those behind it has found that there is none
  pub searched_none : (place index : ℕ) → AllWithin (λ object. nat_cmp object.place place ≡ Less) kept 0 index → AllWithin (λ object. nat_cmp object.place place ≡ Greater) kept index (length kept) → IsOnly (is_at place) kept None
  searched_none place index before behind other is =
      let o = is.object in
      let within = slice_get_within kept other o is.stands in
      let stands = get_or_from_slice_get kept other o o is.stands in
      let at_place : o.place ≡ place = grind (arith, nat_tests, is.passes) in
      let less : other < index → o.place < place = λ lt. ranked o.place place Less (sym (subst (λ (x : Object). nat_cmp x.place place ≡ Less) stands (before other o (omega arith) lt))) in
      let greater : index ≤ other → place < o.place = λ le. ranked o.place place Greater (sym (subst (λ (x : Object). nat_cmp x.place place ≡ Greater) stands (behind other o le within))) in
      grind (arith, less, greater)
