-- A job that is out has given its surface what it owed.
use Rattle.std.proofs.Common.{◌≡◌, ℕ, zero, suc, ◌==◌, ◌&&◌, Bool, true, false, List, [], ◌∷◌, slice_get, filter_map, Some, None, refl, sym, ap, ◌∙◌, subst, arith}
use Rattle.std.specs.List.{list_any}
use Rattle.std.proofs.lemmas.Bool.Decides.{nat_tests}
use Rattle.std.proofs.lemmas.Option.{none-some}
use Rattle.driver_model.specs.Kept.{live_queue}
use Rattle.driver_model.specs.Objects as model
use Rattle.driver_model.specs.States.{Note, State, changed_at, with_content as with_model_content}
use Rattle.driver_objects.specs.Kept.{kept_of, made_of}
use Rattle.driver_objects.specs.Listed.{with_content}
use Rattle.driver_objects.specs.declared.content.Content.{Content}
use Rattle.driver_objects.specs.declared.object.Object.{Object}
use Rattle.driver_objects.proofs.Lists.{element_is, get_set_same}
use Rattle.driver_objects.proofs.Searched.{place_is_one}
use Rattle.driver_core.specs.Given.{Gives}
use Rattle.driver_core.specs.Jobs.{IsHome}
use Rattle.driver_core.specs.Owed.{IsOut}
use Rattle.driver_core.specs.Stands.{IsContent, Stands, is_ok, is_owed}
use Rattle.driver_core.specs.declared.driver.Core.{Core}
use Rattle.driver_core.proofs.ContentStands.{content_stands}
use Rattle.driver_core.proofs.OwedContent.{content_owed}

-- an object that is given what it has is as it was
pub changed_same : (place : ℕ) (objects : List model.Object) (one : model.Object) → slice_get objects place ≡ Some one
    → changed_at place (λ o. record o { content = one.content }) objects ≡ objects
unfolding changed_at
changed_same place [] one at = refl
changed_same zero (first ∷ later) one at = ap (λ (o : model.Object). record first { content = o.content } ∷ later) (sym (element_is first one at))
changed_same (suc place) (first ∷ later) one at = ap (λ rest. first ∷ rest) (changed_same place later one at)

any_there : {X : Type 0} (test : X → Bool) (xs : List X) (i : ℕ) (x : X) → slice_get xs i ≡ Some x → test x ≡ true → list_any test xs ≡ true
any_there test [] i x at is = absurd (none-some x at)
any_there test (y ∷ xs) zero x at is = let e : test y ≡ true = ap test (element_is y x at) ∙ is in grind (arith, e)
any_there test (y ∷ xs) (suc i) x at is = let e = any_there test xs i x at is in grind (arith, e)

module _ (core : Core) (d : State) (stands : Stands core d) (note : Note) (number : ℕ) (out : IsOut d number note) (ok : is_ok note.outcome ≡ true)
    (index : ℕ) (object : Object) (there : slice_get (kept_of core.objects) index ≡ Some object) (its : object.place ≡ note.target) where
  pub target_owed : is_owed d object.place ≡ true
  target_owed = any_there (λ (n : Note). n.target == object.place && is_ok n.outcome) d.notes out.index note out.there (grind (arith, nat_tests, ok, its))

  module _ (after : Core) (what : Content) (gives : Gives core after index what)
      -- what is given is all that the object has in the state, which is no queue
      (is : (one : model.Object) → slice_get d.objects object.place ≡ Some one → IsContent core.queues false one.content what × (model.as_queue one.content ≡ None)) where
    pub given_stands : Stands after d
    given_stands =
        let k = stands.kept index object there in
        let has = is k.0 k.1 in
        let same = changed_same object.place d.objects k.0 k.1 in
        let content = content_owed core.queues false (is_owed d object.place) (λ x. refl) k.0.content what has.0 in
        let all : Stands after (with_model_content d object.place k.0.content) =
        content_stands core d stands index object there what k.0.content (λ dead. has.1) (ap (filter_map live_queue) same) after (gives.now object there) gives.made gives.given gives.queues gives.jobs content in
        subst (λ objects. Stands after (record d { objects = objects })) same all

    pub given_home : IsHome after d note.target
    given_home i o one at its_place one_there =
        let now : slice_get (kept_of after.objects) index ≡ Some (with_content object what) =
        ap (λ k. slice_get k index) (gives.now object there) ∙ get_set_same (kept_of core.objects) index object (with_content object what) there in
        let here : index ≡ i = place_is_one after.objects.names (kept_of after.objects) (made_of after.objects) after.objects.sound i index o (with_content object what) at now (its_place ∙ sym its) in
        let same : o ≡ with_content object what = element_is o (with_content object what) (sym at ∙ (ap (slice_get (kept_of after.objects)) (sym here) ∙ now)) in
        let has = is one (subst (λ p. slice_get d.objects p ≡ Some one) (sym its) one_there) in
        subst (λ q. IsContent q false one.content o.content) (sym gives.queues) (subst (λ (x : Object). IsContent core.queues false one.content x.content) (sym same) has.0)
