-- A live queue is given other content, in what is kept and in the state.
use Rattle.std.proofs.Common.{◌≡◌, ◌≢◌, ◌⊎◌, inl, inr, ℕ, ◌||◌, true, List, set, slice_get, Some, refl, sym, ap, ◌∙◌, subst, arith}
use Rattle.std.proofs.lemmas.Bool.Decides.{nat_tests}
use Rattle.present_queue.specs.Queue.{Names, Queue, promised}
use Rattle.present_queue.specs.Queues.{Surface, queue_at}
use Rattle.driver_model.specs.Kept.{is_in_queue}
use Rattle.driver_model.specs.Objects as model
use Rattle.driver_model.specs.States.{State, with_content}
use Rattle.driver_objects.specs.Kinds.{number_of}
use Rattle.driver_objects.specs.declared.content.Content.TheVariants as content
use Rattle.driver_objects.specs.declared.content.PresentationQueue.{PresentationQueue}
use Rattle.driver_objects.specs.declared.object.Object.{Object}
use Rattle.driver_objects.specs.declared.jobs.OutJob.{OutJob}
use Rattle.driver_objects.proofs.Cases.{either, true_or_false}
use Rattle.driver_objects.proofs.Lists.{element_is}
use Rattle.driver_objects.proofs.QueueLists.{queue_set_other, queue_set_same}
use Rattle.driver_core.specs.Covers.{Covers, IsAllNeeded, IsOf}
use Rattle.driver_core.specs.Sound.{IsSound, is_surface}
use Rattle.driver_core.specs.Stands.{IsContent, IsNeeded, by_place, is_owed}
use Rattle.driver_core.proofs.ContentStands.{get_changed_other, get_changed_same}
use Rattle.driver_core.proofs.Covering.{covers_changed}
use Rattle.driver_core.proofs.Named.{one_at}
use Rattle.driver_core.proofs.NamesOfQueues.{InQueue, in_queue, named_places, places_named, queue_in}
use Rattle.driver_core.proofs.QueueSound.{number_within}
use Rattle.driver_core.proofs.StillContent.{content_still, queue_of}

-- a live output surface that is kept
pub record IsLiveSurface (kept : List Object) (surface : Surface) : Type 0 where
  pub index : ℕ
  pub object : Object
  pub there : slice_get kept index ≡ Some object
  pub is : is_surface surface object ≡ true
  pub live : object.is_live ≡ true

module _ (kept : List Object) (made : ℕ) (queues : List (Queue Surface)) (jobs : List OutJob) (sound : IsSound kept made queues jobs)
    (index : ℕ) (object : Object) (of_kept : PresentationQueue) (there : slice_get kept index ≡ Some object) (has : object.content ≡ content.Queue of_kept) where
  number_is : number_of object.content ≡ Some of_kept.number
  number_is = ap number_of has

  -- the other objects are no queues of this number
  pub other_numbers : (queue : Queue Surface) (i : ℕ) (o : Object) → i ≢ index → slice_get kept i ≡ Some o
      → (other : PresentationQueue) → o.content ≡ content.Queue other → queue_at (set queues of_kept.number queue) other.number ≡ queue_at queues other.number
  other_numbers queue i o apart at other is =
      queue_set_other queues of_kept.number queue other.number (λ e. apart (sound.numbers_apart i index o object of_kept.number at there (ap number_of is ∙ ap Some e) number_is))

  module _ (d : State) (covers : Covers kept queues d)
      (place_is_one : (i j : ℕ) (a b : Object) → slice_get kept i ≡ Some a → slice_get kept j ≡ Some b → a.place ≡ b.place → j ≡ i) where
    -- the queue in the state
    pub record OfState : Type 0 where
      pub one : model.Object
      pub at_place : slice_get d.objects object.place ≡ Some one
      pub of_object : IsOf queues d one object
      pub value : model.PresentationQueue
      pub is : one.content ≡ model.QueueObject value
      pub window : of_kept.window ≡ value.window
      pub queue : value.queue ≡ by_place (queue_at queues of_kept.number)

    pub of_state : OfState
    of_state =
        let k = covers.is index object there in
        let q = queue_of queues (is_owed d object.place) k.0.content of_kept (subst (IsContent queues (is_owed d object.place) k.0.content) has k.2.content) in
        record { one = k.0; at_place = k.1; of_object = k.2; value = q.0; is = q.1; window = q.2; queue = q.3 }

    -- a live queue that names a place where it named it before
    pub names_before : object.is_live ≡ true → (surface : Surface) → Names (queue_at queues of_kept.number) surface → is_in_queue d surface.object ≡ true
    names_before live surface named =
        let s = of_state in
        queue_in d surface.object (record {
          other = object.place;
          one = s.one;
          at_other = s.at_place;
          live = sym s.of_object.live ∙ live;
          value = s.value;
          is = ap model.as_queue s.is;
          names = subst (λ q. Names q surface.object) (sym s.queue) (named_places (queue_at queues of_kept.number) surface named);
        })

    module _ (live : object.is_live ≡ true) (queue : Queue Surface) (window : ℕ) (same_window : of_kept.window ≡ window) (now : Queue ℕ) (is_now : now ≡ by_place queue) where
      abbrev pub with_queue_now : State
      with_queue_now = with_content d object.place (model.QueueObject (record { window = window; queue = now }))

      abbrev pub change : model.Object → model.Object
      change one = record one { content = model.QueueObject (record { window = window; queue = now }) }

      -- where the queue names what it named, and beside that live surfaces alone, what is kept covers the new state
      pub queue_covers : ((surface : Surface) → Names queue surface → Names (queue_at queues of_kept.number) surface ⊎ IsLiveSurface kept surface)
          → Covers kept (set queues of_kept.number queue) with_queue_now
      queue_covers more = covers_changed kept queues d covers place_is_one index object there change kept (set queues of_kept.number queue) object refl there (λ i apart. refl)
          (λ one at is. record { name = is.name; device = is.device; live = is.live; content = subst (IsContent (set queues of_kept.number queue) (is_owed d object.place) (model.QueueObject (record { window = window; queue = now }))) (sym has) (same_window, is_now ∙ ap by_place (sym (queue_set_same queues of_kept.number queue (number_within kept made queues jobs sound index object of_kept.number there number_is)))) })
          (λ i o one apart at is. record { name = is.name; device = is.device; live = is.live; content = content_still queues (set queues of_kept.number queue) (is_owed d o.place) one.content o.content (other_numbers queue i o apart at) is.content })
          needed_before
        where
          in_before : (place : ℕ) (one : model.Object) → slice_get d.objects place ≡ Some one → InQueue with_queue_now place → (one.is_live || is_in_queue d place) ≡ true
          in_before place one at q = elim (either q.other object.place) [
            | inl e ↦
                let s = of_state in
                let one_is : change s.one ≡ q.one = one_at with_queue_now.objects object.place (change s.one) q.one (get_changed_same change object.place d.objects s.one s.at_place) (subst (λ p. slice_get with_queue_now.objects p ≡ Some q.one) e q.at_other) in
                let value_is : record { window = window; queue = now } ≡ q.value = element_is (record { window = window; queue = now }) q.value (ap (λ (o : model.Object). model.as_queue o.content) one_is ∙ q.is) in
                let named : Names (by_place queue) place = subst (λ x. Names x place) is_now (subst (λ (v : model.PresentationQueue). Names v.queue place) (sym value_is) q.names) in
                let p = places_named queue place named in
                elim (more p.0 p.1) [
                  | inl was ↦ let was_in : is_in_queue d place ≡ true = subst (λ x. is_in_queue d x ≡ true) p.2 (names_before live p.0 was) in grind (arith, was_in)
                  | inr alive ↦
                      let k = covers.is alive.index alive.object alive.there in
                      let at_place : alive.object.place ≡ place = let t = alive.is in let e2 = p.2 in grind (arith, nat_tests, t, e2) in
                      let same : k.0 ≡ one = one_at d.objects place k.0 one (subst (λ x. slice_get d.objects x ≡ Some k.0) at_place k.1) at in
                      let lives : one.is_live ≡ true = ap (λ (o : model.Object). o.is_live) (sym same) ∙ (sym k.2.live ∙ alive.live) in
                      grind (arith, lives)
                ]
            | inr apart ↦
                let was_in : is_in_queue d place ≡ true = queue_in d place (record { other = q.other; one = q.one; at_other = sym (get_changed_other change object.place q.other d.objects apart) ∙ q.at_other; live = q.live; value = q.value; is = q.is; names = q.names }) in
                grind (arith, was_in)
          ]

          needed_before : (place : ℕ) (one : model.Object) → place ≢ object.place → slice_get d.objects place ≡ Some one → IsNeeded with_queue_now place one → IsNeeded d place one
          needed_before place one apart at needed = elim (true_or_false one.is_live) [
            | inl lives ↦ grind (arith, lives)
            | inr dead ↦ in_before place one at (in_queue with_queue_now place (ap (λ b. b || is_in_queue with_queue_now place) (sym dead) ∙ needed))
          ]

      -- where it names all that it named, each object that is kept is still needed
      pub queue_all_needed : IsAllNeeded kept d → ((surface : Surface) → Names (queue_at queues of_kept.number) surface → Names queue surface) → IsAllNeeded kept with_queue_now
      queue_all_needed needed stays i o at = elim (true_or_false o.is_live) [
        | inl lives ↦ grind (arith, lives)
        | inr dead ↦ let still : is_in_queue with_queue_now o.place ≡ true = in_after (in_queue d o.place (ap (λ b. b || is_in_queue d o.place) (sym dead) ∙ needed i o at)) in grind (arith, still)
      ]
        where
          in_after : InQueue d o.place → is_in_queue with_queue_now o.place ≡ true
          in_after q = elim (either q.other object.place) [
            | inl e ↦
                let s = of_state in
                let one_is : s.one ≡ q.one = one_at d.objects object.place s.one q.one s.at_place (subst (λ p. slice_get d.objects p ≡ Some q.one) e q.at_other) in
                let value_is : s.value ≡ q.value = element_is s.value q.value (sym (ap model.as_queue s.is) ∙ (ap (λ (x : model.Object). model.as_queue x.content) one_is ∙ q.is)) in
                let named : Names (by_place (queue_at queues of_kept.number)) o.place = subst (λ x. Names x o.place) s.queue (subst (λ (v : model.PresentationQueue). Names v.queue o.place) (sym value_is) q.names) in
                let p = places_named (queue_at queues of_kept.number) o.place named in
                queue_in with_queue_now o.place (record {
                  other = object.place;
                  one = change s.one;
                  at_other = get_changed_same change object.place d.objects s.one s.at_place;
                  live = sym s.of_object.live ∙ live;
                  value = record { window = window; queue = now };
                  is = refl;
                  names = subst (λ x. Names x o.place) (sym is_now) (subst (λ x. Names (by_place queue) x) p.2 (named_places queue p.0 (stays p.0 p.1)));
                })
            | inr apart ↦ queue_in with_queue_now o.place (record { other = q.other; one = q.one; at_other = get_changed_other change object.place q.other d.objects apart ∙ q.at_other; live = q.live; value = q.value; is = q.is; names = q.names })
          ]

pub names_promised : (queue : Queue Surface) (time : ℕ) (surface : Surface) → Names queue surface → Names (promised queue time) surface
names_promised queue time surface (inl there) = inl there
names_promised queue time surface (inr shown) = inr shown
