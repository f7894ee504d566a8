-- The steps of calls on presentation queues that found no fault.
use Rattle.std.proofs.Common.{◌≡◌, ℕ, zero, suc, true, false, List, [], ◌∷◌, slice_get, Option, Some, None, Ok, refl, ap, sym, ◌∙◌}
use Rattle.std.specs.Option.{option_and_then}
use Rattle.present_queue.specs.Queue.{Queued, displayed, promised}
use Rattle.driver_model.specs.Answers.{Leaves, Tells}
use Rattle.driver_model.specs.Clock.{let_go}
use Rattle.driver_model.specs.Objects.{Content, DeviceObject, VideoObject, OutputObject, DecoderObject, MixerObject, QueueObject, Object, PresentationQueue, as_queue}
use Rattle.driver_model.specs.Presented.{first_time, is_idle_at, status_at}
use Rattle.driver_model.specs.Queues as queues
use Rattle.driver_model.specs.Queues.{QueueAndSurface, emptied, presented, queue, queue_display, with_queue}
use Rattle.driver_model.specs.States.{State, changed_at, content_at, destroyed_with, time_of}
use Rattle.driver_model.specs.declared.replies.Answer.TheVariants.{Done, Status, Time}
use Rattle.driver_model.specs.declared.replies.Shown.{Shown}
use Rattle.plain_driver.specs.Looks.{device_at, placed}
use Rattle.plain_driver.specs.Presenting.{both_placed, lined_up, promised_in, with_changed, with_object_changed}
use Rattle.plain_driver.specs.declared.queues.Places.{Places}
use Rattle.plain_driver.proofs.Goes.{at_place, goes_ok, some_one}
use Rattle.plain_driver.proofs.QueueLooks.{display-at, presented-at}

-- two changes that do the same to the object at the place
pub changed_same : (f g : Object → Object) (place : ℕ) (objects : List Object) → ((object : Object) → slice_get objects place ≡ Some object → f object ≡ g object) → changed_at place f objects ≡ changed_at place g objects
unfolding changed_at
changed_same f g place [] same = refl
changed_same f g zero (object ∷ later) same = ap (λ o. o ∷ later) (same object refl)
changed_same f g (suc place) (object ∷ later) same = ap (λ rest. object ∷ rest) (changed_same f g place later same)

as_queue-Some : (content : Content) (of : PresentationQueue) → as_queue content ≡ Some of → content ≡ QueueObject of
as_queue-Some (DeviceObject d) of e = absurd (let k : (let o : Option PresentationQueue = None in o ≡ Some of) = e in cc)
as_queue-Some (VideoObject d) of e = absurd (let k : (let o : Option PresentationQueue = None in o ≡ Some of) = e in cc)
as_queue-Some (OutputObject d) of e = absurd (let k : (let o : Option PresentationQueue = None in o ≡ Some of) = e in cc)
as_queue-Some (DecoderObject d) of e = absurd (let k : (let o : Option PresentationQueue = None in o ≡ Some of) = e in cc)
as_queue-Some (MixerObject d) of e = absurd (let k : (let o : Option PresentationQueue = None in o ≡ Some of) = e in cc)
as_queue-Some (QueueObject q) of e = ap QueueObject (some_one q of e)

-- what stands where a queue is
pub queue_content : (s : State) (place : ℕ) (of : PresentationQueue) → content_at s as_queue place ≡ Some of → (object : Object) → slice_get s.objects place ≡ Some object → object.content ≡ QueueObject of
queue_content s place of is object at = as_queue-Some object.content of (sym (ap (option_and_then (λ (o : Object). as_queue o.content)) at) ∙ is)

-- a change of a queue, by what is in it
changed_queue : (s : State) (place : ℕ) (of : PresentationQueue) (change : Content → Content) → content_at s as_queue place ≡ Some of
    → with_changed s place change ≡ with_object_changed s place (λ object. record object { content = change (QueueObject of) })
changed_queue s place of change is =
    ap (λ o. let t : State = record s { objects = o } in t)
    (changed_same (λ object. record object { content = change object.content }) (λ object. record object { content = change (QueueObject of) }) place s.objects
    (λ object at. ap (λ c. let o : Object = record object { content = change c } in o) (queue_content s place of is object at)))

pub queue_displays : (s : State) (handle surface earliest : ℕ) (places : Places) (new : State) → Ok places ≡ both_placed (queue_display s handle surface earliest)
    → new ≡ with_changed s places.queue (lined_up (record { surface = places.surface; earliest = earliest })) → queues.QueueDisplay s (Ok Done) new handle surface earliest
queue_displays s handle surface earliest places new told after =
    let on = display-at s handle surface earliest places told in
    let of = on.found.queue.value in
    let entry : Queued ℕ = record { surface = places.surface; earliest = earliest } in
    let entry_by : ℕ → Queued ℕ = λ p. record { surface = p; earliest = earliest } in
    goes_ok s (Ok Done) new (queue_display s handle surface earliest) (λ x. Leaves s (Ok Done) new (with_queue s x.queue (displayed x.queue.value.queue (entry_by x.surface.place)))) on.found on.is (
      refl,
      after ∙ (changed_queue s places.queue of (lined_up entry) on.content
          ∙ (ap (λ p. with_object_changed s p (λ object. record object { content = QueueObject (record of { queue = displayed of.queue entry }) })) (sym on.queue_at)
          ∙ ap (λ p. with_queue s on.found.queue (displayed of.queue (entry_by p))) (sym on.surface_at))),
    )

pub queue_promises : (s : State) (handle time place : ℕ) (new : State) → Ok place ≡ placed (queue s handle) → new ≡ with_changed s place (promised_in time) → queues.Promise s (Ok Done) new handle time
queue_promises s handle time place new told after =
    let on = at_place as_queue handle s place told in
    let of = on.found.value in
    goes_ok s (Ok Done) new (queue s handle) (λ x. Leaves s (Ok Done) new (with_queue s x (promised x.value.queue time))) on.found on.is (
      refl,
      after ∙ (changed_queue s place of (promised_in time) on.content
          ∙ ap (λ p. with_object_changed s p (λ object. record object { content = QueueObject (record of { queue = promised of.queue time }) })) (sym on.at)),
    )

pub queue_destroyed : (s : State) (handle place : ℕ) (new : State) → Ok place ≡ placed (queue s handle) → new ≡ with_object_changed s place (λ object. record object { is_live = false; content = let_go object.content }) → queues.QueueDestroy s (Ok Done) new handle
queue_destroyed s handle place new told after =
    let on = at_place as_queue handle s place told in
    let of = on.found.value in
    goes_ok s (Ok Done) new (queue s handle) (λ x. Leaves s (Ok Done) new (destroyed_with s x.place (QueueObject (emptied x.value)))) on.found on.is (
      refl,
      after ∙ (ap (λ o. let t : State = record s { objects = o } in t)
          (changed_same (λ object. record object { is_live = false; content = let_go object.content }) (λ object. record object { is_live = false; content = QueueObject (emptied of) }) place s.objects
          (λ object at. ap (λ c. let o : Object = record object { is_live = false; content = let_go c } in o) (queue_content s place of on.content object at)))
          ∙ ap (λ p. destroyed_with s p (QueueObject (emptied of))) (sym on.at)),
    )

pub status_is : (s : State) (handle surface : ℕ) (places : Places) → Ok places ≡ both_placed (presented s handle surface)
    → (let shown : Shown = record { status = status_at s places.surface; first_time = first_time s places.queue places.surface } in queues.QueryStatus s (Ok (Status shown)) s handle surface)
status_is s handle surface places told =
    let on = presented-at s handle surface places told in
    let shown : ℕ → ℕ → Shown = λ q p. record { status = status_at s p; first_time = first_time s q p } in
    goes_ok s (Ok (Status (shown places.queue places.surface))) s (presented s handle surface) (λ x. Tells s (Ok (Status (shown places.queue places.surface))) s (Status (shown x.queue.place x.surface.place))) on.found on.is
    (ap (λ q. Ok (Status (shown q places.surface))) (sym on.queue_at) ∙ ap (λ p. Ok (Status (shown on.found.queue.place p))) (sym on.surface_at), refl)

pub idle_is : (s : State) (handle surface : ℕ) (places : Places) → Ok places ≡ both_placed (presented s handle surface) → is_idle_at s places.surface ≡ true → queues.BlockUntilIdle s (Ok (Time (first_time s places.queue places.surface))) s handle surface
idle_is s handle surface places told idle =
    let on = presented-at s handle surface places told in
    let time = first_time s places.queue places.surface in
    goes_ok s (Ok (Time time)) s (presented s handle surface) (λ x. (is_idle_at s x.surface.place ≡ true) × Tells s (Ok (Time time)) s (Time (first_time s x.queue.place x.surface.place))) on.found on.is
    (ap (is_idle_at s) on.surface_at ∙ idle, (ap (λ q. Ok (Time (first_time s q places.surface))) (sym on.queue_at) ∙ ap (λ p. Ok (Time (first_time s on.found.queue.place p))) (sym on.surface_at), refl))

pub time_is : (s : State) (handle place : ℕ) → Ok place ≡ placed (queue s handle) → queues.GetTime s (Ok (Time (time_of s (device_at s place)))) s handle
time_is s handle place told =
    let on = at_place as_queue handle s place told in
    goes_ok s (Ok (Time (time_of s (device_at s place)))) s (queue s handle) (λ x. Tells s (Ok (Time (time_of s (device_at s place)))) s (Time (time_of s x.device))) on.found on.is
    (ap (λ d. Ok (Time (time_of s d))) on.device, refl)
