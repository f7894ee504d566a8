-- An object is destroyed and let go, in what is kept and in the state.
use Rattle.std.proofs.Common.{◌≡◌, ◌≢◌, inl, inr, ℕ, ◌==◌, ◌||◌, Bool, true, false, if◌then◌else◌, List, map, slice_get, Some, None, option_map, refl, sym, ap, ◌∙◌, subst, arith}
use Rattle.std.specs.List.{remove}
use Rattle.std.proofs.lemmas.Option.{none-some}
use Rattle.present_queue.specs.Queue.{is_queued, is_shown}
use Rattle.driver_model.specs.Kept.{is_in_queue, live_queues_of}
use Rattle.driver_model.specs.Objects as model
use Rattle.driver_model.specs.Presented.{queue_in}
use Rattle.driver_model.specs.States.{State, destroyed}
use Rattle.driver_model.specs.declared.numbers.TheConstants as number
use Rattle.driver_model.proofs.Changes.{names-changed}
use Rattle.driver_objects.specs.Kept.{IsGiven, kept_of, made_of}
use Rattle.driver_objects.specs.Kinds.{kind_number, number_of}
use Rattle.driver_objects.specs.declared.content.Content.{Content}
use Rattle.driver_objects.specs.declared.content.Content.TheVariants as content
use Rattle.driver_objects.specs.declared.object.Object.{Object}
use Rattle.driver_objects.proofs.Cases.{either}
use Rattle.driver_objects.proofs.Lists.{one_kept}
use Rattle.driver_objects.proofs.Removed.{stays, stood_before, stood_elsewhere}
use Rattle.driver_objects.proofs.Searched.{place_is_one}
use Rattle.driver_core.specs.Roles.{MayDestroy}
use Rattle.driver_core.specs.Stands.{IsContent, Stands, is_owed, told_by}
use Rattle.driver_core.specs.declared.driver.Core.{Core}
use Rattle.driver_core.proofs.ContentStands.{get_changed_other, get_changed_same, length_changed, queues_changed}
use Rattle.driver_core.proofs.ModelKinds.{queue_other}
use Rattle.driver_core.proofs.Named.{kinds_same, one_at}
use Rattle.driver_core.proofs.NamedSurfaces.{not_named}

-- what has no number is no queue
no_queue : (kept : Content) → number_of kept ≡ None → kind_number kept ≡ number.PRESENTATION_QUEUE → ⊥
no_queue (content.Device of) none is = omega (arith, is)
no_queue (content.Video of) none is = omega (arith, is)
no_queue (content.Output of) none is = omega (arith, is)
no_queue (content.Decoder of) none is = omega (arith, is)
no_queue (content.Mixer of) none is = omega (arith, is)
no_queue (content.Queue of) none is = none-some of.number (sym none)

module _ (core : Core) (d : State) (stands : Stands core d) (index : ℕ) (may : MayDestroy (kept_of core.objects) index) where
  abbrev object : Object
  object = may.object

  abbrev new : State
  new = destroyed d object.place

  abbrev change : model.Object → model.Object
  change one = record one { is_live = false }

  was_no_queue : model.as_queue (stands.kept index object may.there).0.content ≡ None
  was_no_queue =
      let k = stands.kept index object may.there in
      let kind = kinds_same core.queues (is_owed d object.place) k.0.content object.content k.3.content in
      queue_other k.0.content (λ e. no_queue object.content may.number (sym kind ∙ e))

  queues_same : live_queues_of new ≡ live_queues_of d
  queues_same =
      let k = stands.kept index object may.there in
      let none = was_no_queue in
      queues_changed change object.place d.objects k.0 k.1 (sym (nothing k.0.is_live) ∙ sym (ap (λ of. if k.0.is_live then option_map (λ (x : model.PresentationQueue). x.queue) of else None) none))
    where
      nothing : (b : Bool) → (if b then option_map (λ (x : model.PresentationQueue). x.queue) None else None) ≡ None
      nothing true = refl
      nothing false = refl

  queued_same : (place : ℕ) → is_in_queue new place ≡ is_in_queue d place
  queued_same place = ap (λ qs. is_queued (λ p. p == place) qs || is_shown (λ p. p == place) qs) queues_same

  gone : (after : Core) → kept_of after.objects ≡ remove (kept_of core.objects) index → made_of after.objects ≡ made_of core.objects
      → ((names : List ℕ) → IsGiven core.objects names → IsGiven after.objects names) → after.queues ≡ core.queues → after.jobs ≡ core.jobs
      → Stands after new
  gone after kept made given queues jobs = record {
    kept = λ i o at.
        let w = stood_before (kept_of core.objects) index i o (sym (ap (λ k. slice_get k i) kept) ∙ at) in
        let k = stands.kept w.place o w.stood in
        let elsewhere = stood_elsewhere (kept_of core.objects) index i o w in
        let apart : o.place ≢ object.place = λ e. elsewhere (place_is_one core.objects.names (kept_of core.objects) (made_of core.objects) core.objects.sound index w.place object o may.there w.stood (sym e)) in (
          k.0,
          get_changed_other change object.place o.place d.objects apart ∙ k.1,
          ap (λ q. k.0.is_live || q) (queued_same o.place) ∙ k.2,
          record { name = k.3.name; device = k.3.device; live = k.3.live; content = subst (λ q. IsContent q (is_owed d o.place) k.0.content o.content) (sym queues) k.3.content },
        );
    needed = λ place one at needed. elim (either place object.place) [
      | inl here ↦
          let k = stands.kept index object may.there in
          let changed : change k.0 ≡ one = one_at new.objects place (change k.0) one (subst (λ p. slice_get new.objects p ≡ Some (change k.0)) (sym here) (get_changed_same change object.place d.objects k.0 k.1)) at in
          let dead : (false || is_in_queue new place) ≡ true = subst (λ (x : model.Object). (x.is_live || is_in_queue new place) ≡ true) (sym changed) needed in
          absurd (not_named core d stands index object may.there may.holder (ap (is_in_queue d) (sym here) ∙ (sym (queued_same place) ∙ dead)))
      | inr apart ↦
          let n = stands.needed place one (sym (get_changed_other change object.place place d.objects apart) ∙ at) (ap (λ q. one.is_live || q) (sym (queued_same place)) ∙ needed) in
          let elsewhere : n.0 ≢ index = λ e. apart (sym n.3 ∙ ap (λ (x : Object). x.place) (one_kept (kept_of core.objects) index n.1 object (subst (λ i. slice_get (kept_of core.objects) i ≡ Some n.1) e n.2) may.there)) in
          let s = stays (kept_of core.objects) index n.0 n.1 elsewhere n.2 in
          (s.0, n.1, ap (λ k. slice_get k s.0) kept ∙ s.1, n.3)
    ];
    made = made ∙ (stands.made ∙ sym (length_changed change object.place d.objects));
    given = subst (IsGiven after.objects) (sym (names-changed change (λ one. refl) object.place d.objects)) (given (map (λ (one : model.Object). one.name) d.objects) stands.given);
    jobs = ap (λ j. map told_by j.items) jobs ∙ stands.jobs;
    idle_queues = λ place one queue surface at dead is names. elim (either place object.place) [
      | inl here ↦
          let k = stands.kept index object may.there in
          let changed : change k.0 ≡ one = one_at new.objects place (change k.0) one (subst (λ p. slice_get new.objects p ≡ Some (change k.0)) (sym here) (get_changed_same change object.place d.objects k.0 k.1)) at in
          let nothing : queue_in one ≡ None = ap (λ (x : model.Object). queue_in x) (sym changed) ∙ ap (option_map (λ (x : model.PresentationQueue). x.queue)) was_no_queue in
          none-some queue (sym nothing ∙ is)
      | inr apart ↦ stands.idle_queues place one queue surface (sym (get_changed_other change object.place place d.objects apart) ∙ at) dead is names
    ];
  }

  -- so by whatever stood at the place
  pub gone_stands : (after : Core) (one : Object) → slice_get (kept_of core.objects) index ≡ Some one → kept_of after.objects ≡ remove (kept_of core.objects) index → made_of after.objects ≡ made_of core.objects
      → ((names : List ℕ) → IsGiven core.objects names → IsGiven after.objects names) → after.queues ≡ core.queues → after.jobs ≡ core.jobs
      → Stands after (destroyed d one.place)
  gone_stands after one there kept made given queues jobs =
      subst (λ (o : Object). Stands after (destroyed d o.place)) (one_kept (kept_of core.objects) index object one may.there there) (gone after kept made given queues jobs)
