-- Lists of kept objects of which one is changed, by its place.
use Rattle.std.proofs.Common.{◌≡◌, ◌≢◌, inl, inr, ℕ, ◌==◌, true, false, if◌then◌else◌, List, map, set, slice_get, Some, None, Vec, Global, refl, sym, ap, ◌∙◌, subst, arith}
use Rattle.std.proofs.lemmas.Bool.Decides.{nat_tests}
use Rattle.std.proofs.lemmas.List.{length-set, set-set}
use Rattle.driver_objects.specs.Alike.{owned}
use Rattle.driver_objects.specs.Listed.{IsOnly, is_at, with_content}
use Rattle.driver_objects.specs.Stored.{value_of}
use Rattle.driver_objects.specs.declared.content.Content.{Content}
use Rattle.driver_objects.specs.declared.content.Content.TheVariants as content
use Rattle.driver_objects.specs.declared.content.OutputSurface.{OutputSurface}
use Rattle.driver_objects.specs.declared.object.Object.{Object}
use Rattle.driver_objects.specs.declared.stored.Stored.{Stored}
use Rattle.driver_objects.specs.declared.stored.Stored.TheVariants.{Own}
use Rattle.driver_objects.proofs.Cases.{either}
use Rattle.driver_objects.proofs.Lists.{get_set_apart, get_set_same, one_kept}
use Rattle.driver_objects.proofs.Maps.{all_changed}

-- The content of the object at this place is changed, and that of no other.
abbrev pub changed_where : ℕ → (Content → Content) → Object → Object
changed_where place change object = with_content object (if object.place == place then change object.content else object.content)

module _ (place : ℕ) (change : Content → Content) where
  here : (object : Object) → object.place ≡ place → changed_where place change object ≡ with_content object (change object.content)
  here object is =
      let test : (object.place == place) ≡ true = grind (arith, nat_tests, is) in
      ap (λ b. with_content object (if b then change object.content else object.content)) test

  elsewhere : (object : Object) → object.place ≢ place → changed_where place change object ≡ object
  elsewhere object apart =
      let test : (object.place == place) ≡ false = grind (arith, nat_tests, apart) in
      ap (λ b. with_content object (if b then change object.content else object.content)) test

  module _ (kept : List Object) where
    pub changed_nowhere : IsOnly (is_at place) kept None → kept ≡ map (changed_where place change) kept
    changed_nowhere none = all_changed (changed_where place change) kept kept refl (λ i o at. at ∙ ap Some (sym (elsewhere o (λ e. none i (record { object = o; stands = at; passes = grind (arith, nat_tests, e) })))))

    module _ (index : ℕ) (only : IsOnly (is_at place) kept (Some index)) where
      at_place : only.0.object.place ≡ place
      at_place = let p = only.0.passes in grind (arith, nat_tests, p)

      pub changed_there : (what : Content) → what ≡ change only.0.object.content → set kept index (with_content only.0.object what) ≡ map (changed_where place change) kept
      changed_there what is = all_changed (changed_where place change) kept (set kept index (with_content only.0.object what)) (length-set kept index (with_content only.0.object what)) (λ i o at. elim (either i index) [
        | inl e ↦
            let same : only.0.object ≡ o = one_kept kept index only.0.object o only.0.stands (subst (λ k. slice_get kept k ≡ Some o) e at) in
            ap (slice_get (set kept index (with_content only.0.object what))) e
            ∙ (get_set_same kept index only.0.object (with_content only.0.object what) only.0.stands
            ∙ ap Some (ap (with_content only.0.object) is ∙ (sym (here only.0.object at_place) ∙ ap (changed_where place change) same)))
        | inr apart ↦ get_set_apart kept index i (with_content only.0.object what) o apart at
            ∙ ap Some (sym (elsewhere o (λ e. apart (only.1 i (record { object = o; stands = at; passes = grind (arith, nat_tests, e) })))))
      ])

      -- the change leaves it
      pub changed_alike : change only.0.object.content ≡ only.0.object.content → kept ≡ map (changed_where place change) kept
      changed_alike same = all_changed (changed_where place change) kept kept refl (λ i o at. at ∙ ap Some (elim (either i index) [
        | inl e ↦
            let one : only.0.object ≡ o = one_kept kept index only.0.object o only.0.stands (subst (λ k. slice_get kept k ≡ Some o) e at) in
            let content : change o.content ≡ o.content = subst (λ (x : Object). change x.content ≡ x.content) one same in
            let place_is : o.place ≡ place = ap (λ (x : Object). x.place) (sym one) ∙ at_place in
            sym (here o place_is ∙ ap (with_content o) content)
        | inr apart ↦ sym (elsewhere o (λ e. apart (only.1 i (record { object = o; stands = at; passes = grind (arith, nat_tests, e) }))))
      ]))

-- Content is taken out and put back changed.
pub replaced_twice : (kept mid after : List Object) (index : ℕ) (object : Object) (hole what : Content) → slice_get kept index ≡ Some object
    → ((o : Object) → slice_get kept index ≡ Some o → mid ≡ set kept index (with_content o hole))
    → ((o : Object) → slice_get mid index ≡ Some o → after ≡ set mid index (with_content o what))
    → after ≡ set kept index (with_content object what)
replaced_twice kept mid after index object hole what there first second =
    let mid_is = first object there in
    let at_mid : slice_get mid index ≡ Some (with_content object hole) = ap (λ k. slice_get k index) mid_is ∙ get_set_same kept index object (with_content object hole) there in
    second (with_content object hole) at_mid ∙ (ap (λ k. set k index (with_content object what)) mid_is ∙ set-set kept index (with_content object hole) (with_content object what))

pub owned_same : (of : OutputSurface) (pixels : Stored (Vec ℕ Global)) → value_of pixels ≡ value_of of.pixels → owned (content.Output (record of { pixels = pixels })) ≡ owned (content.Output of)
owned_same of pixels same = ap (λ v. content.Output (record of { pixels = Own v })) same
