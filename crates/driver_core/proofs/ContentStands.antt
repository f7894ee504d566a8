-- An object is given other content, in what is kept and in the state.
use Rattle.std.proofs.Common.{◌≡◌, ◌≢◌, inl, inr, ℕ, zero, suc, ◌==◌, ◌||◌, false, List, [], ◌∷◌, length, map, set, slice_get, Some, None, option_map, refl, sym, ap, ◌∙◌, subst}
use Rattle.std.specs.List.{cons_option, filter_map}
use Rattle.std.proofs.lemmas.Option.{none-some}
use Rattle.present_queue.specs.Queue.{is_queued, is_shown}
use Rattle.driver_model.specs.Kept.{is_in_queue, live_queue, live_queues_of}
use Rattle.driver_model.specs.Objects as model
use Rattle.driver_model.specs.Presented.{queue_in}
use Rattle.driver_model.specs.States.{State, changed_at, with_content as with_model_content}
use Rattle.driver_model.proofs.Changes.{names-changed}
use Rattle.driver_objects.specs.Kept.{IsGiven, kept_of, made_of}
use Rattle.driver_objects.specs.Listed.{with_content}
use Rattle.driver_objects.specs.declared.content.Content.{Content}
use Rattle.driver_objects.specs.declared.object.Object.{Object}
use Rattle.driver_objects.proofs.Cases.{either}
use Rattle.driver_objects.proofs.Lists.{element_is, get_set, get_set_apart, get_set_same, one_kept}
use Rattle.driver_objects.proofs.Searched.{place_is_one}
use Rattle.driver_core.specs.Stands.{AreIdle, IsContent, IsNeeded, IsObject, Stands, is_owed, told_by}
use Rattle.driver_core.specs.declared.driver.Core.{Core}

-- ---- one object of a state is changed

module _ (change : model.Object → model.Object) where
  pub get_changed_same : (place : ℕ) (objects : List model.Object) (one : model.Object) → slice_get objects place ≡ Some one → slice_get (changed_at place change objects) place ≡ Some (change one)
  unfolding changed_at
  get_changed_same place [] one at = absurd (none-some one at)
  get_changed_same zero (first ∷ later) one at = ap (λ (o : model.Object). Some (change o)) (element_is first one at)
  get_changed_same (suc place) (first ∷ later) one at = get_changed_same place later one at

  pub get_changed_other : (place other : ℕ) (objects : List model.Object) → other ≢ place → slice_get (changed_at place change objects) other ≡ slice_get objects other
  unfolding changed_at
  get_changed_other place other [] apart = refl
  get_changed_other zero zero (first ∷ later) apart = absurd (apart refl)
  get_changed_other zero (suc other) (first ∷ later) apart = refl
  get_changed_other (suc place) zero (first ∷ later) apart = refl
  get_changed_other (suc place) (suc other) (first ∷ later) apart = get_changed_other place other later (λ e. apart (ap suc e))

  pub length_changed : (place : ℕ) (objects : List model.Object) → length (changed_at place change objects) ≡ length objects
  unfolding changed_at
  length_changed place [] = refl
  length_changed zero (first ∷ later) = refl
  length_changed (suc place) (first ∷ later) = ap suc (length_changed place later)

  -- where the object has the same queue, if any, and lives on, the live queues stay
  pub queues_changed : (place : ℕ) (objects : List model.Object) (one : model.Object) → slice_get objects place ≡ Some one → live_queue (change one) ≡ live_queue one
      → filter_map live_queue (changed_at place change objects) ≡ filter_map live_queue objects
  unfolding changed_at
  queues_changed place [] one at same = refl
  queues_changed zero (first ∷ later) one at same =
      ap (λ q. cons_option q (filter_map live_queue later)) (ap (λ (o : model.Object). live_queue (change o)) (element_is first one at) ∙ (same ∙ ap live_queue (sym (element_is first one at))))
  queues_changed (suc place) (first ∷ later) one at same = ap (λ rest. cons_option (live_queue first) rest) (queues_changed place later one at same)

module _ (core : Core) (d : State) (stands : Stands core d) (index : ℕ) (object : Object) (there : slice_get (kept_of core.objects) index ≡ Some object)
    (what : Content) (content : model.Content)
    -- a destroyed object becomes no queue
    (dead : object.is_live ≡ false → model.as_queue content ≡ None)
    (same_queues : live_queues_of (with_model_content d object.place content) ≡ live_queues_of d) where
  abbrev new : State
  new = with_model_content d object.place content

  abbrev change : model.Object → model.Object
  change one = record one { content = content }

  queued_same : (place : ℕ) → is_in_queue new place ≡ is_in_queue d place
  queued_same place = ap (λ qs. is_queued (λ p. p == place) qs || is_shown (λ p. p == place) qs) same_queues

  pub content_stands : (after : Core) → kept_of after.objects ≡ set (kept_of core.objects) index (with_content object what) → made_of after.objects ≡ made_of core.objects
      → ((names : List ℕ) → IsGiven core.objects names → IsGiven after.objects names) → after.queues ≡ core.queues → after.jobs ≡ core.jobs
      → IsContent core.queues (is_owed d object.place) content what
      → Stands after new
  content_stands after kept made given queues jobs is = record {
    kept = λ i o at. elim (get_set (kept_of core.objects) index i (with_content object what) o (sym (ap (λ k. slice_get k i) kept) ∙ at)) [
      | inl here ↦ subst FromState here.1 changed
      | inr same ↦
          let k = stands.kept i o same.1 in
          let apart : o.place ≢ object.place = λ e. same.0 (place_is_one core.objects.names (kept_of core.objects) (made_of core.objects) core.objects.sound index i object o there same.1 (sym e)) in (
            k.0,
            get_changed_other change object.place o.place d.objects apart ∙ k.1,
            ap (λ q. k.0.is_live || q) (queued_same o.place) ∙ k.2,
            record { name = k.3.name; device = k.3.device; live = k.3.live; content = subst (λ q. IsContent q (is_owed d o.place) k.0.content o.content) (sym queues) k.3.content },
          )
    ];
    needed = λ place one at needed. elim (either place object.place) [
      | inl here ↦ (index, with_content object what, ap (λ k. slice_get k index) kept ∙ get_set_same (kept_of core.objects) index object (with_content object what) there, sym here)
      | inr apart ↦
          let n = stands.needed place one (sym (get_changed_other change object.place place d.objects apart) ∙ at) (ap (λ q. one.is_live || q) (sym (queued_same place)) ∙ needed) in
          let elsewhere : n.0 ≢ index = λ e. apart (sym n.3 ∙ ap (λ (x : Object). x.place) (one_kept (kept_of core.objects) index n.1 object (subst (λ i. slice_get (kept_of core.objects) i ≡ Some n.1) e n.2) there)) in
          (n.0, n.1, ap (λ k. slice_get k n.0) kept ∙ get_set_apart (kept_of core.objects) index n.0 (with_content object what) n.1 elsewhere n.2, n.3)
    ];
    made = made ∙ (stands.made ∙ sym (length_changed change object.place d.objects));
    given = subst (IsGiven after.objects) (sym (names-changed change (λ one. refl) object.place d.objects)) (given (map (λ (one : model.Object). one.name) d.objects) stands.given);
    jobs = ap (λ j. map told_by j.items) jobs ∙ stands.jobs;
    idle_queues = idle;
  }
    where
      idle : AreIdle new.objects
      idle place one queue surface at gone is_queue names = elim (either place object.place) [
        | inl here ↦
            let k = stands.kept index object there in
            let same : change k.0 ≡ one = element_is (change k.0) one (sym (get_changed_same change object.place d.objects k.0 k.1) ∙ (ap (slice_get new.objects) (sym here) ∙ at)) in
            let was_gone : object.is_live ≡ false = k.3.live ∙ (ap (λ (x : model.Object). x.is_live) same ∙ gone) in
            let none : queue_in one ≡ None = ap queue_in (sym same) ∙ ap (option_map (λ (x : model.PresentationQueue). x.queue)) (dead was_gone) in
            none-some queue (sym none ∙ is_queue)
        | inr apart ↦ stands.idle_queues place one queue surface (sym (get_changed_other change object.place place d.objects apart) ∙ at) gone is_queue names
      ]

      FromState : Object → Type 0
      FromState o = (one : model.Object) × (slice_get new.objects o.place ≡ Some one) × IsNeeded new o.place one × IsObject after new one o

      changed : FromState (with_content object what)
      changed =
          let k = stands.kept index object there in (
            change k.0,
            get_changed_same change object.place d.objects k.0 k.1,
            ap (λ q. k.0.is_live || q) (queued_same object.place) ∙ k.2,
            record { name = k.3.name; device = k.3.device; live = k.3.live; content = subst (λ q. IsContent q (is_owed d object.place) content what) (sym queues) is },
          )
