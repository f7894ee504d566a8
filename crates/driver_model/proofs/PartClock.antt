-- Ticks, preemption and the end of a device in the part about it.
use Rattle.std.proofs.Common.{◌≡◌, ℕ, suc, ◌+◌, ◌==◌, nat_le, Bool, true, false, ◌&&◌, ◌||◌, if◌then◌else◌, List, [], ◌∷◌, filter_map, map, slice_get, Option, Some, None, Ok, MatchOption, refl, ap, sym, ◌∙◌, subst, inl, arith}
use Rattle.std.proofs.lemmas.Bool.{and_parts, eq-eqb, eqb-true}
use Rattle.std.specs.List.{AllByRecursion, cons_option, enumerate_from, list_any}
use Rattle.std.specs.Option.{option_and_then, option_map, option_map_or, unwrap_or}
use Rattle.cb_types.specs.SizeMbs.{luma_height, luma_width}
use Rattle.present_queue.specs.Queue.{Names, Queue, Queued, due, first_due}
use Rattle.driver_model.specs.Answers.{Leaves, Reply}
use Rattle.driver_model.specs.Clock.{Due, Advance, DeviceDestroy, Preempt, advance, all_due, all_shown, destroyed_on, device, device_destroy, due_at, due_in, flip_of, is_tick_held, let_go, no_output, ticked_at}
use Rattle.driver_model.specs.Objects.{Content, Device, DeviceObject, VideoObject, OutputObject, DecoderObject, MixerObject, QueueObject, OutputSurface, Object, PresentationQueue, as_output, as_queue}
use Rattle.driver_model.specs.Presented.{queue_in}
use Rattle.driver_model.specs.Sound.{AreSound, IsOutputOf, IsSoundQueue}
use Rattle.driver_model.specs.States.{State, Found, content_at, is_out, name_at, with_content}
use Rattle.driver_model.specs.declared.replies.Answer.TheVariants.{Flips}
use Rattle.driver_model.specs.declared.replies.Flipped.{Flipped}
use Rattle.driver_model.proofs.PartContents.{let_go-moved, moved_object, moved_output, moved_presentation, output_moves, part_of, queue_moves}
use Rattle.driver_model.proofs.PartFinds.{IsRoot, alike_advance, alike_destroy, alike_device, moved_root}
use Rattle.driver_model.proofs.PartLooks.{IsOwnName, part-content, part-name}
use Rattle.driver_model.proofs.PartNotes.{part-out}
use Rattle.driver_model.proofs.PartPlaces.{Cut, kept-map, place_in, place_in-one}
use Rattle.driver_model.proofs.PartRows.{Too, after_content, goes_too, leaves_too}
use Rattle.driver_model.proofs.PartStates.{After, Pair}
use Rattle.driver_model.proofs.PartTicks.{IsOwnDue, moved_due, part-all_shown, part-due}

-- ---- what is due

-- A queue that is due stands on the device, and the surface that it is to show is one of the device's.
pub record IsDueOn (objects : List Object) (device : ℕ) (due : Due) : Type 0 where
  pub queue : Object
  pub queue_stands : slice_get objects due.queue ≡ Some queue
  pub queue_device : queue.device ≡ device
  pub surface : IsOutputOf objects device due.surface

module _ (objects : List Object) (sound : AreSound objects) (device time : ℕ) where
  -- the entry that is due is one of the queue's
  due_names : (entries : List (Queued ℕ)) (visible : Option ℕ) (promise : ℕ) (entry : Queued ℕ) → first_due entries time ≡ Some entry
      → (let queue : Queue ℕ = record { entries = entries; visible = visible; promise = promise } in Names queue entry.surface)
  due_names [] visible promise entry e = absurd (let k : (let o : Option (Queued ℕ) = None in o ≡ Some entry) = e in cc)
  due_names (first ∷ later) visible promise entry e = by_time (nat_le first.earliest time) e where
    by_time : (is_due : Bool) → (if is_due then Some first else None) ≡ Some entry → (let queue : Queue ℕ = record { entries = first ∷ later; visible = visible; promise = promise } in Names queue entry.surface)
    by_time true k = let same : first.surface ≡ entry.surface = cc in inl (0, omega arith, same)
    by_time false k = absurd (let z : (let o : Option (Queued ℕ) = None in o ≡ Some entry) = k in cc)

  due_is_on : (place : ℕ) (object : Object) → slice_get objects place ≡ Some object → (due : Due) → due_at device time (place, object) ≡ Some due → IsDueOn objects device due
  due_is_on place object stands due e = by_test (object.is_live && object.device == device) refl e where
    by_entry : (content : Content) (queue : Queue ℕ) → IsSoundQueue objects object.device object.is_live queue → object.device ≡ device → (entry : Option (Queued ℕ)) → first_due queue.entries time ≡ entry
        → option_map {U = Due} (λ e. record { queue = place; surface = e.surface }) entry ≡ Some due → IsDueOn objects device due
    by_entry content queue is on None found k = absurd (let z : (let o : Option Due = None in o ≡ Some due) = k in cc)
    by_entry content queue is on (Some entry) found k =
        let one : Due = record { queue = place; surface = entry.surface } in
        let same : one ≡ due = cc in
        subst (IsDueOn objects device) same (record {
          queue = object;
          queue_stands = stands;
          queue_device = on;
          surface = subst (λ d. IsOutputOf objects d entry.surface) on (is.surfaces entry.surface (due_names queue.entries queue.visible queue.promise entry found));
        })

    by_content : (content : Content) → object.content ≡ content → object.device ≡ device → option_and_then (due_in time place) (as_queue content) ≡ Some due → IsDueOn objects device due
    by_content (QueueObject of) is on k =
        let there : queue_in object ≡ Some of.queue = ap (λ o. option_map (λ (p : PresentationQueue). p.queue) (as_queue o)) is in
        by_entry object.content of.queue (subst (λ (o : Option (Queue ℕ)). MatchOption o (Unit {0}) (IsSoundQueue objects object.device object.is_live)) there (sound place object stands)) on (first_due of.queue.entries time) refl k
    by_content (DeviceObject of) is on k = absurd (let z : (let o : Option Due = None in o ≡ Some due) = k in cc)
    by_content (VideoObject of) is on k = absurd (let z : (let o : Option Due = None in o ≡ Some due) = k in cc)
    by_content (OutputObject of) is on k = absurd (let z : (let o : Option Due = None in o ≡ Some due) = k in cc)
    by_content (DecoderObject of) is on k = absurd (let z : (let o : Option Due = None in o ≡ Some due) = k in cc)
    by_content (MixerObject of) is on k = absurd (let z : (let o : Option Due = None in o ≡ Some due) = k in cc)

    by_test : (t : Bool) → (object.is_live && object.device == device) ≡ t → (if t then option_and_then (due_in time place) (as_queue object.content) else None) ≡ Some due → IsDueOn objects device due
    by_test true is k = by_content object.content refl (eqb-true object.device device (and_parts object.is_live (object.device == device) is).1) k
    by_test false is k = absurd (let z : (let o : Option Due = None in o ≡ Some due) = k in cc)

  all_on : (i : ℕ) (later : List Object) → ((k : ℕ) (object : Object) → slice_get later k ≡ Some object → slice_get objects (i + k) ≡ Some object)
      → AllByRecursion (IsDueOn objects device) (filter_map (due_at device time) (enumerate_from i later))
  all_on i [] stand = tt
  all_on i (object ∷ later) stand =
      by_due (due_at device time (i, object)) refl
      (all_on (i + 1) later (λ k o e. let next : i + suc k ≡ i + 1 + k = omega arith in subst (λ n. slice_get objects n ≡ Some o) next (stand (suc k) o e)))
    where
      by_due : (o : Option Due) → due_at device time (i, object) ≡ o → AllByRecursion (IsDueOn objects device) (filter_map (due_at device time) (enumerate_from (i + 1) later))
          → AllByRecursion (IsDueOn objects device) (cons_option o (filter_map (due_at device time) (enumerate_from (i + 1) later)))
      by_due None e rest = rest
      by_due (Some due) e rest =
          let zeroth : i + 0 ≡ i = omega arith in
          (due_is_on i object (subst (λ n. slice_get objects n ≡ Some object) zeroth (stand 0 object refl)) due e, rest)

  -- so is each that is due
  pub all_due_on : AllByRecursion (IsDueOn objects device) (filter_map (due_at device time) (enumerate_from 0 objects))
  all_due_on = all_on 0 objects (λ k object e. let zeroth : k ≡ 0 + k = omega arith in subst (λ n. slice_get objects n ≡ Some object) zeroth e)

module _ (c : Cut) (on : ℕ) (q : ℕ → Option ℕ) (s t : State) (pair : Pair c on q s t) where
  own_of : (place : ℕ) (object : Object) → slice_get s.objects place ≡ Some object → object.device ≡ on → c.own place ≡ true
  own_of place object stands device = pair.are_of place object stands ∙ eq-eqb object.device on device

  own_due : (due : Due) → IsDueOn s.objects on due → IsOwnDue c due
  own_due due is = (own_of due.queue is.queue is.queue_stands is.queue_device, own_of due.surface is.surface.object is.surface.stands is.surface.of_device)

  own_dues : (dues : List Due) → AllByRecursion (IsDueOn s.objects on) dues → AllByRecursion (IsOwnDue c) dues
  own_dues [] are = tt
  own_dues (due ∷ later) are = (own_due due are.0, own_dues later are.1)

  dues-own : (time : ℕ) → AllByRecursion (IsOwnDue c) (all_due s on time)
  dues-own time = own_dues (all_due s on time) (all_due_on s.objects pair.sound on time)

  dues-same : (time : ℕ) → all_due t (place_in c on) time ≡ map (moved_due c) (all_due s on time)
  dues-same time = ap (λ l. filter_map (due_at (place_in c on) time) (enumerate_from 0 l)) pair.objects ∙ part-due c on time s.objects pair.are_of

  -- ---- what is told of flips

  window_in : (o : Option PresentationQueue) → option_map_or (λ (of : PresentationQueue). of.window) (option_map (moved_presentation c) o) 0 ≡ option_map_or (λ of. of.window) o 0
  window_in None = refl
  window_in (Some of) = refl

  flipped_with : (queue window surface time : ℕ) → OutputSurface → Flipped
  flipped_with queue window surface time of = record {
    queue = queue;
    window = window;
    surface = surface;
    time = time;
    width = luma_width of.size;
    height = luma_height of.size;
    format = of.format;
    bytes = of.bytes;
  }

  output_in : (queue window surface time : ℕ) (o : Option OutputSurface) → flipped_with queue window surface time (unwrap_or (option_map (moved_output c) o) no_output) ≡ flipped_with queue window surface time (unwrap_or o no_output)
  unfolding flipped_with
  output_in queue window surface time None = refl
  output_in queue window surface time (Some of) = refl

  flip-same : (time : ℕ) (due : Due) → IsOwnDue c due → flip_of t time (moved_due c due) ≡ flip_of s time due
  unfolding flipped_with
  flip-same time due own =
      let window : option_map_or (λ (of : PresentationQueue). of.window) (content_at t as_queue (place_in c due.queue)) 0 ≡ option_map_or (λ of. of.window) (content_at s as_queue due.queue) 0 =
      ap (λ (o : Option PresentationQueue). option_map_or (λ of. of.window) o 0) (part-content c as_queue (moved_presentation c) (queue_moves c) s t due.queue pair.objects own.0) ∙ window_in (content_at s as_queue due.queue) in
      let outputs = part-content c as_output (moved_output c) (output_moves c) s t due.surface pair.objects own.1 in
      let queue_name = part-name c s t due.queue pair.objects own.0 in
      let surface_name = part-name c s t due.surface pair.objects own.1 in
      (λ i. flipped_with (queue_name i) (window i) (surface_name i) time (unwrap_or (outputs i) no_output))
      ∙ output_in (name_at s due.queue) (option_map_or (λ of. of.window) (content_at s as_queue due.queue) 0) (name_at s due.surface) time (content_at s as_output due.surface)

  flips-same : (time : ℕ) (dues : List Due) → AllByRecursion (IsOwnDue c) dues → map (flip_of t time) (map (moved_due c) dues) ≡ map (flip_of s time) dues
  flips-same time [] own = refl
  flips-same time (due ∷ later) own = λ i. flip-same time due own.0 i ∷ flips-same time later own.1 i

  held-same : (dues : List Due) → AllByRecursion (IsOwnDue c) dues → list_any (λ (due : Due). is_out t due.surface) (map (moved_due c) dues) ≡ list_any (λ (due : Due). is_out s due.surface) dues
  held-same [] own = refl
  held-same (due ∷ later) own = λ i. part-out c q s t pair.notes pair.targets due.surface own.0.1 i || held-same later own.1 i

  -- ---- the steps

  after_tick : (found : Found Device) → IsRoot c on found → (time : ℕ) → After c q t (ticked_at s found time) (ticked_at t (moved_root c on found) time)
  after_tick found is time =
      let content : Content = DeviceObject (record found.value { time = time }) in
      let timed = after_content c on q s t pair found.place content content refl is.0.place in
      let dues : all_due t (place_in c found.place) time ≡ map (moved_due c) (all_due s found.place time) = subst (λ p. all_due t (place_in c p) time ≡ map (moved_due c) (all_due s p time)) (sym is.1) (dues-same time) in
      let own : AllByRecursion (IsOwnDue c) (all_due s found.place time) = subst (λ p. AllByRecursion (IsOwnDue c) (all_due s p time)) (sym is.1) (dues-own time) in
      record {
        objects = (λ i. all_shown time (dues i) (timed.objects i)) ∙ sym (part-all_shown c time (all_due s found.place time) (with_content s found.place content).objects own);
        notes = pair.notes;
        items = refl;
      }

  module _ (new : State) (reply : Reply) where
    pub advance_too : (name time : ℕ) → IsOwnName c.own s.objects name → Advance s reply new name time → Too c on q s t pair new reply (λ u. Advance t reply u name time)
    advance_too name time is_own p =
        goes_too c on q s t pair new reply (moved_root c on) (IsRoot c on) (advance s name time) (advance t name time)
        (λ found. (is_tick_held s found.place time ≡ false) × (reply ≡ Ok (Flips (map (flip_of s time) (all_due s found.place time)))) × (new ≡ ticked_at s found time))
        (λ u found. (is_tick_held t found.place time ≡ false) × (reply ≡ Ok (Flips (map (flip_of t time) (all_due t found.place time)))) × (u ≡ ticked_at t found time))
        (alike_advance c on q s t pair name time is_own) ticks p
      where
        ticks : (found : Found Device) → IsRoot c on found → (is_tick_held s found.place time ≡ false) × (reply ≡ Ok (Flips (map (flip_of s time) (all_due s found.place time)))) × (new ≡ ticked_at s found time)
            → Too c on q s t pair new reply (λ u. (is_tick_held t (place_in c found.place) time ≡ false) × (reply ≡ Ok (Flips (map (flip_of t time) (all_due t (place_in c found.place) time)))) × (u ≡ ticked_at t (moved_root c on found) time))
        ticks found is a =
            let dues : all_due t (place_in c found.place) time ≡ map (moved_due c) (all_due s found.place time) = subst (λ p. all_due t (place_in c p) time ≡ map (moved_due c) (all_due s p time)) (sym is.1) (dues-same time) in
            let own : AllByRecursion (IsOwnDue c) (all_due s found.place time) = subst (λ p. AllByRecursion (IsOwnDue c) (all_due s p time)) (sym is.1) (dues-own time) in
            let held : is_tick_held t (place_in c found.place) time ≡ is_tick_held s found.place time = ap (list_any (λ (due : Due). is_out t due.surface)) dues ∙ held-same (all_due s found.place time) own in
            let flips : map (flip_of s time) (all_due s found.place time) ≡ map (flip_of t time) (all_due t (place_in c found.place) time) =
            sym (flips-same time (all_due s found.place time) own) ∙ ap (map (flip_of t time)) (sym dues) in (
              ticked_at t (moved_root c on found) time,
              (held ∙ a.0, a.1 ∙ ap (λ l. Ok (Flips l)) flips, refl),
              subst (λ u. After c q t u (ticked_at t (moved_root c on found) time)) (sym a.2) (after_tick found is time),
            )

    pub preempt_too : (name : ℕ) → IsOwnName c.own s.objects name → Preempt s reply new name → Too c on q s t pair new reply (λ u. Preempt t reply u name)
    preempt_too name is_own p =
        goes_too c on q s t pair new reply (moved_root c on) (IsRoot c on) (device s name) (device t name)
        (λ found. Leaves s reply new (with_content s found.place (DeviceObject (record found.value { is_preempted = true }))))
        (λ u found. Leaves t reply u (with_content t found.place (DeviceObject (record found.value { is_preempted = true }))))
        (alike_device c on q s t pair name is_own)
        (λ found is a.
        let content : Content = DeviceObject (record found.value { is_preempted = true }) in
        leaves_too c on q s t pair new reply (with_content s found.place content) (with_content t (place_in c found.place) content) (after_content c on q s t pair found.place content content refl is.0.place) a)
        p

    destroyed_on-moved : (place : ℕ) (object : Object) → moved_object c (destroyed_on place object) ≡ destroyed_on (place_in c place) (moved_object c object)
    destroyed_on-moved place object =
        by_test (object.device == place)
        ∙ ap (λ b. if b then record { name = object.name; device = place_in c object.device; is_live = false; content = let_go (moved_object c object).content } else moved_object c object) (sym (place_in-one c object.device place))
      where
        by_test : (b : Bool) → moved_object c (if b then record object { is_live = false; content = let_go object.content } else object)
            ≡ (if b then record { name = object.name; device = place_in c object.device; is_live = false; content = let_go (moved_object c object).content } else moved_object c object)
        by_test true = ap (λ o. record { name = object.name; device = place_in c object.device; is_live = false; content = o }) (let_go-moved c object.content)
        by_test false = refl

    pub destroy_too : (name : ℕ) → IsOwnName c.own s.objects name → DeviceDestroy s reply new name → Too c on q s t pair new reply (λ u. DeviceDestroy t reply u name)
    destroy_too name is_own p =
        goes_too c on q s t pair new reply (moved_root c on) (IsRoot c on) (device_destroy s name) (device_destroy t name)
        (λ found. Leaves s reply new (record s { objects = map (destroyed_on found.place) s.objects }))
        (λ u found. Leaves t reply u (record t { objects = map (destroyed_on found.place) t.objects }))
        (alike_destroy c on q s t pair name is_own)
        (λ found is a.
        let left : State = record s { objects = map (destroyed_on found.place) s.objects } in
        let other : State = record t { objects = map (destroyed_on (place_in c found.place)) t.objects } in
        let objects : other.objects ≡ part_of c left.objects =
        ap (map (destroyed_on (place_in c found.place))) pair.objects ∙ sym (kept-map (moved_object c) (destroyed_on found.place) (destroyed_on (place_in c found.place)) (destroyed_on-moved found.place) c.own s.objects) in
        leaves_too c on q s t pair new reply left other (record { objects = objects; notes = pair.notes; items = refl }) a)
        p
