-- What is kept covers the state after an object, or the queue that it stands for, was changed.
use Rattle.std.proofs.Common.{◌≡◌, ◌≢◌, inl, inr, ℕ, ◌||◌, false, List, length, map, slice_get, Some, sym, ap, ◌∙◌, subst}
use Rattle.present_queue.specs.Queue.{Names, Queue}
use Rattle.present_queue.specs.Queues.{Surface}
use Rattle.driver_model.specs.Kept.{is_in_queue}
use Rattle.driver_model.specs.Objects as model
use Rattle.driver_model.specs.Presented.{queue_in}
use Rattle.driver_model.specs.States.{State, changed_at}
use Rattle.driver_objects.specs.Kept.{IsGiven, kept_of, made_of}
use Rattle.driver_objects.specs.declared.object.Object.{Object}
use Rattle.driver_objects.proofs.Cases.{either}
use Rattle.driver_objects.proofs.Lists.{one_kept}
use Rattle.driver_core.specs.Covers.{Covers, IsAllNeeded, IsOf}
use Rattle.driver_core.specs.Stands.{AreIdle, IsNeeded, Stands, told_by, told_of}
use Rattle.driver_core.specs.declared.driver.Core.{Core}
use Rattle.driver_core.proofs.ContentStands.{get_changed_other, get_changed_same}
use Rattle.driver_core.proofs.Named.{one_at}

-- ---- the halves of what a core stands for

module _ (core : Core) (d : State) where
  pub covers_of : Stands core d → Covers (kept_of core.objects) core.queues d
  covers_of stands = record {
    is = λ i o at. let k = stands.kept i o at in (k.0, k.1, record { name = k.3.name; device = k.3.device; live = k.3.live; content = k.3.content });
    needed = stands.needed;
  }

  pub all_needed : Stands core d → IsAllNeeded (kept_of core.objects) d
  all_needed stands i o at = let k = stands.kept i o at in ap (λ b. b || is_in_queue d o.place) k.3.live ∙ k.2

  pub stands_from : Covers (kept_of core.objects) core.queues d → IsAllNeeded (kept_of core.objects) d
      → made_of core.objects ≡ length d.objects → IsGiven core.objects (map (λ (one : model.Object). one.name) d.objects) → map told_by core.jobs.items ≡ map told_of d.notes
      → AreIdle d.objects
      → Stands core d
  stands_from covers needed made given jobs idle = record {
    kept = λ i o at. let k = covers.is i o at in (
      k.0,
      k.1,
      ap (λ b. b || is_in_queue d o.place) (sym k.2.live) ∙ needed i o at,
      record { name = k.2.name; device = k.2.device; live = k.2.live; content = k.2.content },
    );
    needed = covers.needed;
    made = made;
    given = given;
    jobs = jobs;
    idle_queues = idle;
  }

-- ---- one object is changed

-- an object that is changed is live, or names nothing
pub idle_changed : (objects : List model.Object) (place : ℕ) (change : model.Object → model.Object) (one : model.Object) → slice_get objects place ≡ Some one → AreIdle objects
    → ((queue : Queue ℕ) (surface : ℕ) → (change one).is_live ≡ false → queue_in (change one) ≡ Some queue → Names queue surface → ⊥)
    → AreIdle (changed_at place change objects)
idle_changed objects place change one there idle changed other object queue surface at dead is names = elim (either other place) [
  | inl e ↦
      let same : change one ≡ object = one_at (changed_at place change objects) place (change one) object (get_changed_same change place objects one there) (subst (λ p. slice_get (changed_at place change objects) p ≡ Some object) e at) in
      changed queue surface (ap (λ (o : model.Object). o.is_live) same ∙ dead) (ap queue_in same ∙ is) names
  | inr apart ↦ idle other object queue surface (sym (get_changed_other change place other objects apart) ∙ at) dead is names
]

module _ (kept : List Object) (queues : List (Queue Surface)) (d : State) (covers : Covers kept queues d)
    (place_is_one : (i j : ℕ) (a b : Object) → slice_get kept i ≡ Some a → slice_get kept j ≡ Some b → a.place ≡ b.place → j ≡ i)
    (index : ℕ) (object : Object) (there : slice_get kept index ≡ Some object) (change : model.Object → model.Object) where
  abbrev pub changed_state : State
  changed_state = record d { objects = changed_at object.place change d.objects }

  pub covers_changed : (after : List Object) (after_queues : List (Queue Surface)) (now : Object) → now.place ≡ object.place
      → slice_get after index ≡ Some now
      → ((i : ℕ) → i ≢ index → slice_get after i ≡ slice_get kept i)
      → ((one : model.Object) → slice_get d.objects object.place ≡ Some one → IsOf queues d one object → IsOf after_queues changed_state (change one) now)
      → ((i : ℕ) (o : Object) (one : model.Object) → i ≢ index → slice_get kept i ≡ Some o → IsOf queues d one o → IsOf after_queues changed_state one o)
      → ((place : ℕ) (one : model.Object) → place ≢ object.place → slice_get d.objects place ≡ Some one → IsNeeded changed_state place one → IsNeeded d place one)
      → Covers after after_queues changed_state
  covers_changed after after_queues now same_place here elsewhere changed others before = record {
    is = λ i o at. elim (either i index) [
      | inl e ↦
          let same : now ≡ o = one_kept after index now o here (subst (λ k. slice_get after k ≡ Some o) e at) in
          subst FromState same changed_is
      | inr apart ↦
          let was : slice_get kept i ≡ Some o = sym (elsewhere i apart) ∙ at in
          let k = covers.is i o was in
          let far : o.place ≢ object.place = λ e. apart (place_is_one index i object o there was (sym e)) in
          (k.0, get_changed_other change object.place o.place d.objects far ∙ k.1, others i o k.0 apart was k.2)
    ];
    needed = λ place one at needed. elim (either place object.place) [
      | inl e ↦ (index, now, here, same_place ∙ sym e)
      | inr apart ↦
          let at_before : slice_get d.objects place ≡ Some one = sym (get_changed_other change object.place place d.objects apart) ∙ at in
          let n = covers.needed place one at_before (before place one apart at_before needed) in
          let far : n.0 ≢ index = λ e. apart (sym n.3 ∙ ap (λ (x : Object). x.place) (one_kept kept index n.1 object (subst (λ k. slice_get kept k ≡ Some n.1) e n.2) there)) in
          (n.0, n.1, elsewhere n.0 far ∙ n.2, n.3)
    ];
  }
    where
      FromState : Object → Type 0
      FromState o = (one : model.Object) × (slice_get changed_state.objects o.place ≡ Some one) × IsOf after_queues changed_state one o

      changed_is : FromState now
      changed_is =
          let k = covers.is index object there in
          (change k.0, ap (slice_get changed_state.objects) same_place ∙ get_changed_same change object.place d.objects k.0 k.1, changed k.0 k.1 k.2)

-- ---- nothing is changed

-- a core that keeps what another does stands for what it does
pub stands_same : (core after : Core) (d : State) → Stands core d → after.objects ≡ core.objects → after.queues ≡ core.queues → after.jobs ≡ core.jobs → Stands after d
stands_same core after d stands objects queues jobs =
    stands_from after d (rw (objects, queues) (covers_of core d stands)) (rw objects (all_needed core d stands)) (rw objects stands.made) (rw objects stands.given) (rw jobs stands.jobs) stands.idle_queues
