-- What a kind and a name find.
use Rattle.std.proofs.Common.{◌≡◌, ℕ, zero, suc, Bool, true, false, if◌then◌else◌, List, [], ◌∷◌, slice_get, Option, Some, None, refl, sym, ap, ◌∙◌, subst, arith}
use Rattle.std.proofs.lemmas.Bool.Decides.{nat_tests}
use Rattle.std.proofs.lemmas.Option.{none-some}
use Rattle.handle_table.specs.Handles.{Handles, lookup}
use Rattle.driver_objects.specs.Listed.{IsOnly, called, is_at}
use Rattle.driver_objects.specs.Sound.{IsSound, called_place}
use Rattle.driver_objects.specs.declared.object.Object.{Object}
use Rattle.driver_objects.proofs.Lists.{element_is}
use Rattle.driver_objects.proofs.Searched.{name_is_one}

module _ (kind name : ℕ) where
  -- what is found is a live object of the kind and the name, at the place
  pub record Finds (kept : List Object) (place : ℕ) : Type 0 where
    pub index : ℕ
    pub object : Object
    pub stands : slice_get kept index ≡ Some object
    pub passes : called kind name object ≡ true
    pub at_place : object.place ≡ place

  finds_later : (first : Object) (later : List Object) (place : ℕ) → Finds later place → Finds (first ∷ later) place
  finds_later first later place f = record { index = suc f.index; object = f.object; stands = f.stands; passes = f.passes; at_place = f.at_place }

  pub called_place-Some : (kept : List Object) (place : ℕ) → called_place kind name kept ≡ Some place → Finds kept place
  called_place-Some [] place e = absurd (none-some place e)
  called_place-Some (first ∷ later) place e = by_test (called_place-Some later place) (called kind name first) refl e where
    by_test : (called_place kind name later ≡ Some place → Finds later place)
        → (test : Bool) → called kind name first ≡ test → (if test then Some first.place else called_place kind name later) ≡ Some place → Finds (first ∷ later) place
    by_test further true t found = record { index = 0; object = first; stands = refl; passes = t; at_place = element_is first.place place found }
    by_test further false t found = finds_later first later place (further found)

  pub called_place-None : (kept : List Object) → called_place kind name kept ≡ None → (index : ℕ) (object : Object) → slice_get kept index ≡ Some object → called kind name object ≡ false
  called_place-None [] e index object stands = absurd (none-some object stands)
  called_place-None (first ∷ later) e index object stands = by_test (called_place-None later) (called kind name first) refl e index stands where
    by_test : (called_place kind name later ≡ None → (k : ℕ) (o : Object) → slice_get later k ≡ Some o → called kind name o ≡ false)
        → (test : Bool) → called kind name first ≡ test → (if test then Some first.place else called_place kind name later) ≡ None → (k : ℕ) → slice_get (first ∷ later) k ≡ Some object → called kind name object ≡ false
    by_test further true t found k at = absurd (none-some first.place (sym found))
    by_test further false t found zero at = ap (called kind name) (sym (element_is first object at)) ∙ t
    by_test further false t found (suc k) at = further found k object at

  -- nothing is found where no object is so
  pub called_place-absent : (kept : List Object) → ((index : ℕ) (object : Object) → slice_get kept index ≡ Some object → called kind name object ≡ false) → called_place kind name kept ≡ None
  called_place-absent [] none = refl
  called_place-absent (first ∷ later) none = ap (λ test. if test then Some first.place else called_place kind name later) (none 0 first refl) ∙ called_place-absent later (λ index object stands. none (suc index) object stands)

module _ (names : Handles ℕ) (kept : List Object) (made : ℕ) (sound : IsSound names kept made) (kind name : ℕ) where
  -- one live object alone is of the kind and the name
  called_is_one : (i j : ℕ) (a b : Object) → slice_get kept i ≡ Some a → slice_get kept j ≡ Some b → called kind name a ≡ true → called kind name b ≡ true → j ≡ i
  called_is_one i j a b here there one other = name_is_one names kept made sound i j a b here there (grind (arith, nat_tests, one)) (grind (arith, nat_tests, other)) (grind (arith, nat_tests, one, other))

  pub named_some : (place : ℕ) → lookup names.live kind name ≡ Some place → (found : Option ℕ) → IsOnly (is_at place) kept found → IsOnly (called kind name) kept found
  named_some place e None none =
      let f = called_place-Some kind name kept place (sym (sound.named kind name) ∙ e) in
      absurd (none f.index (record { object = f.object; stands = f.stands; passes = grind (arith, nat_tests, f.at_place) }))
  named_some place e (Some index) only =
      let f = called_place-Some kind name kept place (sym (sound.named kind name) ∙ e) in
      let here : f.index ≡ index = only.1 f.index (record { object = f.object; stands = f.stands; passes = grind (arith, nat_tests, f.at_place) }) in
      let stands : slice_get kept index ≡ Some f.object = subst (λ k. slice_get kept k ≡ Some f.object) here f.stands in
      (record { object = f.object; stands = stands; passes = f.passes }, λ other is. called_is_one index other f.object is.object stands is.stands f.passes is.passes)

  pub named_none : lookup names.live kind name ≡ None → IsOnly (called kind name) kept None
  named_none e index is = grind (arith, called_place-None kind name kept (sym (sound.named kind name) ∙ e) index is.object is.stands, is.passes)
