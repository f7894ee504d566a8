-- What is kept after a tick stands for the state after it.
use Rattle.std.proofs.Common.{◌≡◌, inl, inr, ℕ, ◌==◌, ◌||◌, Bool, true, false, if◌then◌else◌, List, get_or, length, map, slice_get, Option, Some, None, option_map, refl, sym, ap, ◌∙◌, subst, arith}
use Rattle.std.specs.Option.{option_and_then}
use Rattle.std.proofs.lemmas.Bool.Decides.{nat_tests}
use Rattle.std.proofs.lemmas.Option.{none-some, slice_get-get_or, slice_get_within}
use Rattle.present_queue.specs.Queue.{Names, Queue}
use Rattle.present_queue.specs.Queues.{Surface, queue_at}
use Rattle.driver_model.specs.Clock as clock
use Rattle.driver_model.specs.Kept.{is_in_queue}
use Rattle.driver_model.specs.Objects as model
use Rattle.driver_model.specs.Presented.{queue_in as queue_of_object}
use Rattle.driver_model.specs.States.{Found, State, changed_at, content_at}
use Rattle.driver_model.proofs.Changes.{names-all_shown, names-changed}
use Rattle.driver_objects.specs.Kept.{IsGiven, kept_of, made_of}
use Rattle.driver_objects.specs.Kinds.{holder_of, number_of}
use Rattle.driver_objects.specs.Swept.{is_wanted}
use Rattle.driver_objects.specs.Ticks.{placed, with_time}
use Rattle.driver_objects.specs.declared.object.Object.{Object}
use Rattle.driver_objects.specs.declared.ticks.Due.{Due}
use Rattle.driver_objects.proofs.Cases.{either, true_or_false}
use Rattle.driver_objects.proofs.Lists.{element_is, one_kept, some_passes}
use Rattle.driver_objects.proofs.Searched.{place_is_one}
use Rattle.driver_objects.proofs.Wanted.{held_wanted}
use Rattle.driver_core.specs.Covers.{Covers, IsAllNeeded, IsOf}
use Rattle.driver_core.specs.Sound.{is_surface}
use Rattle.driver_core.specs.Stands.{AreIdle, Stands, by_place, is_owed, told_by}
use Rattle.driver_core.specs.declared.driver.Core.{Core}
use Rattle.driver_core.proofs.ContentStands.{length_changed}
use Rattle.driver_core.proofs.Covering.{covers_of, stands_from}
use Rattle.driver_core.proofs.DueQueues.{dues_of, same_queue}
use Rattle.driver_core.proofs.DuesOf.{dues_same}
use Rattle.driver_core.proofs.ModelKinds.{device_is}
use Rattle.driver_core.proofs.Named.{one_at}
use Rattle.driver_core.proofs.NamedBoth.{core_named}
use Rattle.driver_core.proofs.NamesOfQueues.{InQueue, in_queue, live_is, named_places, places_named, queue_in}
use Rattle.driver_core.proofs.Presenting.{holder_is, queue_from, queue_is}
use Rattle.driver_core.proofs.RolesSound.{KeepsRoles, held_now}
use Rattle.driver_core.proofs.TickedContent.{IsTicked, number_timed_if, through_content, timed_content}
use Rattle.driver_core.proofs.TickedQueues.{through_by_place, through_names, ticked_through}
use Rattle.driver_core.proofs.TickedSound.{final, fewer, like_final, queue_after, queues_after, stays_final, swept, was_before}
use Rattle.driver_core.proofs.TickedState.{content_through, get_changed, get_shown, length_shown, queue_if, queue_through}

module _ (core : Core) (on time : ℕ) (keeps : KeepsRoles core (swept core on time) (queues_after core on time))
    (d : State) (stands : Stands core d) (device : model.Device) (has_device : content_at d model.as_device on ≡ Some device) where
  -- ---- the state after the tick

  abbrev dues : List clock.Due
  dues = map placed (dues_of core on time)

  abbrev set_device : model.Object → model.Object
  set_device object = record object { content = model.DeviceObject (record device { time = time }) }

  abbrev pub new : State
  new = record d { objects = clock.all_shown time (map placed (dues_of core on time)) (changed_at on (λ object. record object { content = model.DeviceObject (record device { time = time }) }) d.objects) }

  -- what becomes of content at a place
  abbrev timed_at : (p : ℕ) → model.Content → model.Content
  timed_at p content = if p == on then model.DeviceObject (record device { time = time }) else content

  abbrev after : (p : ℕ) → model.Object → model.Object
  after p one = record one { content = content_through time dues p (timed_at p one.content) }

  get_new : (p : ℕ) (one : model.Object) → slice_get d.objects p ≡ Some one → slice_get new.objects p ≡ Some (after p one)
  get_new p one at =
      get_shown time dues p (changed_at on set_device d.objects) (record one { content = timed_at p one.content }) (get_changed set_device on p d.objects one at ∙ ap Some (by_test (p == on)))
    where
      by_test : (b : Bool) → (if b then set_device one else one) ≡ record one { content = if b then model.DeviceObject (record device { time = time }) else one.content }
      by_test true = refl
      by_test false = refl

  length_new : length new.objects ≡ length d.objects
  length_new = length_shown time dues (changed_at on set_device d.objects) ∙ length_changed set_device on d.objects

  from_new : (p : ℕ) (two : model.Object) → slice_get new.objects p ≡ Some two → (one : model.Object) × (slice_get d.objects p ≡ Some one) × (after p one ≡ two)
  from_new p two at =
      let w = slice_get_within new.objects p two at in
      let there = slice_get-get_or d.objects p two (let l = length_new in omega (arith, w, l)) in
      (get_or d.objects p two, there, element_is (after p (get_or d.objects p two)) two (sym (get_new p (get_or d.objects p two) there) ∙ at))

  -- the device is there
  on_device : (p : ℕ) (one : model.Object) → slice_get d.objects p ≡ Some one → p ≡ on → one.content ≡ model.DeviceObject device
  on_device p one at e =
      device_is one.content device (sym (ap (option_and_then (λ (o : model.Object). model.as_device o.content)) (ap (slice_get d.objects) (sym e) ∙ at)) ∙ has_device)

  -- ---- queues

  abbrev ticks : (p : ℕ) → Queue ℕ → Queue ℕ
  ticks p queue = ticked_through (λ (due : clock.Due). p == due.queue) time dues queue

  timed_queue : (p : ℕ) (one : model.Object) → slice_get d.objects p ≡ Some one → queue_if time (timed_at p one.content) ≡ queue_if time one.content
  timed_queue p one at = elim (either p on) [
    | inl e ↦
        let test : (p == on) ≡ true = grind (arith, nat_tests, e) in
        ap (λ b. queue_if time (if b then model.DeviceObject (record device { time = time }) else one.content)) test ∙ sym (ap (queue_if time) (on_device p one at e))
    | inr apart ↦
        let test : (p == on) ≡ false = grind (arith, nat_tests, apart) in
        ap (λ b. queue_if time (if b then model.DeviceObject (record device { time = time }) else one.content)) test
  ]

  -- an object's queue is the one before, ticked
  after_queue : (p : ℕ) (one : model.Object) → slice_get d.objects p ≡ Some one → queue_of_object (after p one) ≡ option_map (ticks p) (queue_of_object one)
  after_queue p one at = queue_through time dues p (timed_at p one.content) ∙ ap (option_map (ticks p)) (timed_queue p one at)

  was_queue : (p : ℕ) (one : model.Object) (queue : Queue ℕ) → slice_get d.objects p ≡ Some one → queue_of_object (after p one) ≡ Some queue → (before : Queue ℕ) × (queue_of_object one ≡ Some before) × (ticks p before ≡ queue)
  was_queue p one queue at is = by_option (queue_of_object one) refl (sym (after_queue p one at) ∙ is) where
    by_option : (o : Option (Queue ℕ)) → queue_of_object one ≡ o → option_map (ticks p) o ≡ Some queue → (before : Queue ℕ) × (queue_of_object one ≡ Some before) × (ticks p before ≡ queue)
    by_option None e is = absurd (none-some queue is)
    by_option (Some before) e is = (before, e, element_is (ticks p before) queue is)

  -- a kept queue is ticked as its object in the state is
  is_ticked : (index number : ℕ) (object : Object) → slice_get (kept_of core.objects) index ≡ Some object → number_of object.content ≡ Some number
      → IsTicked time core.queues (queues_after core on time) (is_owed d object.place) (dues_of core on time) object.place number
  is_ticked index number object there has = record { queue = queue_after core on time number; same = same_queue core on time index number object there has }

  queue_now : (index number : ℕ) (object : Object) → slice_get (kept_of core.objects) index ≡ Some object → number_of object.content ≡ Some number
      → ticks object.place (by_place (queue_at core.queues number)) ≡ by_place (queue_at (queues_after core on time) number)
  queue_now index number object there has =
      sym (through_by_place (λ (due : Due). number == due.number) (λ (due : clock.Due). object.place == due.queue) placed time (dues_of core on time) (queue_at core.queues number) (same_queue core on time index number object there has))
      ∙ ap by_place (sym (queue_after core on time number))

  -- what a queue of the new state names, it named before
  in_before : (place : ℕ) → InQueue new place → InQueue d place
  in_before place q =
      let f = from_new q.other q.one q.at_other in
      let live : f.0.is_live ≡ true = ap (λ (o : model.Object). o.is_live) f.2 ∙ q.live in
      let w = was_queue q.other f.0 q.value.queue f.1 (ap queue_of_object f.2 ∙ ap (option_map (λ (x : model.PresentationQueue). x.queue)) q.is) in
      let l = live_is f.0 w.0 (ap (λ b. if b then queue_of_object f.0 else None) live ∙ w.1) in
      let named : Names w.0 place = through_names (λ (due : clock.Due). q.other == due.queue) time dues w.0 place (subst (λ x. Names x place) (sym w.2) q.names) in
      record { other = q.other; one = f.0; at_other = f.1; live = live; value = l.value; is = l.is; names = subst (λ x. Names x place) (sym l.has) named }

  before : (place : ℕ) → is_in_queue new place ≡ true → is_in_queue d place ≡ true
  before place queued = queue_in d place (in_before place (in_queue new place queued))

  from_state : (place : ℕ) → is_in_queue new place ≡ true → (number : ℕ) × (surface : Surface) × Names (queue_at (queues_after core on time) number) surface × (surface.object ≡ place)
  from_state place queued =
      let q = in_queue new place queued in
      let f = from_new q.other q.one q.at_other in
      let live : f.0.is_live ≡ true = ap (λ (o : model.Object). o.is_live) f.2 ∙ q.live in
      let w = was_queue q.other f.0 q.value.queue f.1 (ap queue_of_object f.2 ∙ ap (option_map (λ (x : model.PresentationQueue). x.queue)) q.is) in
      let k = queue_from core d stands q.other f.0 w.0 f.1 live w.1 in
      let now : q.value.queue ≡ by_place (queue_at (queues_after core on time) k.number) =
      sym w.2 ∙ (ap (ticks q.other) k.is ∙ (ap (λ p. ticks p (by_place (queue_at core.queues k.number))) (sym k.at_place) ∙ queue_now k.index k.number k.object k.there k.has)) in
      let n = places_named (queue_at (queues_after core on time) k.number) place (subst (λ x. Names x place) now q.names) in
      (k.number, n.0, n.1, n.2)

  to_state : (number : ℕ) (surface : Surface) → Names (queue_at (queues_after core on time) number) surface → is_in_queue new surface.object ≡ true
  to_state number surface named =
      let n = core_named core d stands number surface (fewer core on time number surface named) in
      let q = queue_is core d stands n.index n.object number n.there n.has in
      let p = n.object.place in
      let queue : queue_of_object (after p q.one) ≡ Some (by_place (queue_at (queues_after core on time) number)) =
      after_queue p q.one q.at_place ∙ (ap (option_map (ticks p)) q.queue ∙ ap Some (queue_now n.index number n.object n.there n.has)) in
      let l = live_is (after p q.one) (by_place (queue_at (queues_after core on time) number)) (ap (λ b. if b then queue_of_object (after p q.one) else None) q.live ∙ queue) in
      queue_in new surface.object (record {
        other = p;
        one = after p q.one;
        at_other = get_new p q.one q.at_place;
        live = q.live;
        value = l.value;
        is = l.is;
        names = subst (λ x. Names x surface.object) (sym l.has) (named_places (queue_at (queues_after core on time) number) surface named);
      })

  -- ---- what is kept

  still : (i : ℕ) (o : Object) (one : model.Object) → slice_get (kept_of core.objects) i ≡ Some o → slice_get d.objects o.place ≡ Some one → IsOf core.queues d one o → IsOf (queues_after core on time) new (after o.place one) (final core on time o)
  still i o one at there is = record {
    name = is.name;
    device = is.device;
    live = is.live;
    content = through_content time core.queues (queues_after core on time) (is_owed d o.place) (dues_of core on time) o.place (timed_at o.place one.content) (if o.place == on then with_time time o.content else o.content)
        (λ number has. is_ticked i number o at (sym (number_timed_if (o.place == on) time o.content) ∙ has))
        (timed_content core.queues (is_owed d o.place) on time device o.place one.content o.content (on_device o.place one there) is.content);
  }

  all_needed : IsAllNeeded (swept core on time) new
  all_needed i o at = elim (true_or_false o.is_live) [
    | inl live ↦ grind (arith, live)
    | inr dead ↦
        let h = held_now core (swept core on time) (queues_after core on time) keeps i o at dead in
        let queued : is_in_queue new o.place ≡ true = subst (λ p. is_in_queue new p ≡ true) h.1 (to_state h.0.number h.0.surface h.0.named) in
        grind (arith, queued)
  ]

  -- what a queue of the new state names is wanted
  named_wanted : (i : ℕ) (o : Object) → slice_get (kept_of core.objects) i ≡ Some o → is_in_queue new o.place ≡ true → is_wanted (queues_after core on time) (final core on time o) ≡ true
  named_wanted i o at queued =
      let f = from_state o.place queued in
      let s = some_passes (is_surface f.1) (kept_of core.objects) (core.sound.surfaces f.0 f.1 (fewer core on time f.0 f.1 f.2)) in
      let is = holder_is f.1 s.1 s.3 in
      let here = place_is_one core.objects.names (kept_of core.objects) (made_of core.objects) core.objects.sound i s.0 o s.1 at s.2 (sym (is.0 ∙ f.3)) in
      let one = one_kept (kept_of core.objects) i s.1 o (subst (λ k. slice_get (kept_of core.objects) k ≡ Some s.1) here s.2) at in
      held_wanted (queues_after core on time) (final core on time o) f.1.holder f.0 f.1 ((like_final core on time o).role.holder ∙ (ap (λ (y : Object). holder_of y.content) (sym one) ∙ is.1)) f.2 refl

  covers : Covers (swept core on time) (queues_after core on time) new
  covers = record {
    is = λ i o at.
        let w = was_before core on time i o at in
        let k = (covers_of core d stands).is w.at w.before w.stood in
        let place : w.before.place ≡ o.place = ap (λ (x : Object). x.place) w.is in (
          after w.before.place k.0,
          ap (slice_get new.objects) (sym place) ∙ get_new w.before.place k.0 k.1,
          subst (IsOf (queues_after core on time) new (after w.before.place k.0)) w.is (still w.at w.before k.0 w.stood k.1 k.2),
        );
    needed = λ place two at needed.
        let f = from_new place two at in
        elim (true_or_false two.is_live) [
          | inl live ↦
              let lived : f.0.is_live ≡ true = ap (λ (o : model.Object). o.is_live) f.2 ∙ live in
              let n = stands.needed place f.0 f.1 (ap (λ b. b || is_in_queue d place) lived) in
              let k = stands.kept n.0 n.1 n.2 in
              let kept_one : k.0 ≡ f.0 = one_at d.objects place k.0 f.0 (subst (λ p. slice_get d.objects p ≡ Some k.0) n.3 k.1) f.1 in
              let kept_lives : n.1.is_live ≡ true = k.3.live ∙ (ap (λ (o : model.Object). o.is_live) kept_one ∙ lived) in
              let s = stays_final core on time n.0 n.1 n.2 (grind (arith, kept_lives)) in
              (s.0, final core on time n.1, s.1, n.3)
          | inr dead ↦
              let queued : is_in_queue new place ≡ true = sym (ap (λ b. b || is_in_queue new place) dead) ∙ needed in
              let queued_before = before place queued in
              let n = stands.needed place f.0 f.1 (grind (arith, queued_before)) in
              let s = stays_final core on time n.0 n.1 n.2 (named_wanted n.0 n.1 n.2 (subst (λ p. is_in_queue new p ≡ true) (sym n.3) queued)) in
              (s.0, final core on time n.1, s.1, n.3)
        ];
  }

  idle : AreIdle new.objects
  idle place two queue surface at dead is names =
      let f = from_new place two at in
      let w = was_queue place f.0 queue f.1 (ap queue_of_object f.2 ∙ is) in
      stands.idle_queues place f.0 w.0 surface f.1 (ap (λ (o : model.Object). o.is_live) f.2 ∙ dead) w.1
      (through_names (λ (due : clock.Due). place == due.queue) time dues w.0 surface (subst (λ x. Names x surface) (sym w.2) names))

  names_new : map (λ (one : model.Object). one.name) new.objects ≡ map (λ (one : model.Object). one.name) d.objects
  names_new = names-all_shown time dues (changed_at on set_device d.objects) ∙ names-changed set_device (λ one. refl) on d.objects

  pub ticked_stands : (after_core : Core) → kept_of after_core.objects ≡ swept core on time → made_of after_core.objects ≡ made_of core.objects
      → ((names : List ℕ) → IsGiven core.objects names → IsGiven after_core.objects names) → after_core.queues ≡ queues_after core on time → after_core.jobs ≡ core.jobs
      → Stands after_core new
  ticked_stands after_core kept made given queues_are jobs =
      stands_from after_core new
      (rw (kept, queues_are) covers)
      (rw kept all_needed)
      (made ∙ (stands.made ∙ sym length_new))
      (subst (IsGiven after_core.objects) (sym names_new) (given (map (λ (one : model.Object). one.name) d.objects) stands.given))
      (ap (λ j. map told_by j.items) jobs ∙ stands.jobs)
      idle

-- so for the state that a tick leads to
pub ticked_at_stands : (core after_core : Core) (time : ℕ) (d : State) (stands : Stands core d) (of : Found model.Device) (on : ℕ) (place_is : of.place ≡ on) (has_device : content_at d model.as_device on ≡ Some of.value)
    → KeepsRoles core (swept core on time) (queues_after core on time)
    → kept_of after_core.objects ≡ swept core on time → made_of after_core.objects ≡ made_of core.objects
    → ((names : List ℕ) → IsGiven core.objects names → IsGiven after_core.objects names) → after_core.queues ≡ queues_after core on time → after_core.jobs ≡ core.jobs
    → Stands after_core (clock.ticked_at d of time)
ticked_at_stands core after_core time d stands of on place_is has_device keeps kept made given queues_are jobs =
    let same : map placed (dues_of core on time) ≡ clock.all_due d of.place time = dues_same core d on time stands ∙ ap (λ p. clock.all_due d p time) (sym place_is) in
    subst (Stands after_core) (λ i. record d { objects = clock.all_shown time (same i) (changed_at (sym place_is i) (λ (object : model.Object). record object { content = model.DeviceObject (record of.value { time = time }) }) d.objects) })
    (ticked_stands core on time keeps d stands of.value has_device after_core kept made given queues_are jobs)
