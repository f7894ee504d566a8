-- What is kept of an object is what it has, after ticks as before them.
use Rattle.std.proofs.Common.{◌≡◌, ℕ, ◌==◌, Bool, true, false, if◌then◌else◌, List, [], ◌∷◌, map, slice_get, Some, None, refl, sym, ap, ◌∙◌, subst, arith}
use Rattle.std.proofs.lemmas.Bool.Decides.{nat_tests}
use Rattle.std.proofs.lemmas.Option.{none-some}
use Rattle.present_queue.specs.Queue.{Queue, ticked}
use Rattle.present_queue.specs.Queues.{Surface, queue_at}
use Rattle.driver_model.specs.Clock as clock
use Rattle.driver_model.specs.Objects as model
use Rattle.driver_objects.specs.Kinds.{number_of}
use Rattle.driver_objects.specs.Listed.{with_content}
use Rattle.driver_objects.specs.Ticks.{all_noted, flip_at, noted, placed, with_flip, with_time}
use Rattle.driver_objects.specs.declared.content.Content.{Content}
use Rattle.driver_objects.specs.declared.content.Content.TheVariants as content
use Rattle.driver_objects.specs.declared.content.LastFlip.{LastFlip}
use Rattle.driver_objects.specs.declared.content.PresentationQueue.{PresentationQueue}
use Rattle.driver_objects.specs.declared.object.Object.{Object}
use Rattle.driver_objects.specs.declared.ticks.Due.{Due}
use Rattle.driver_core.specs.Stands.{IsContent, by_place}
use Rattle.driver_core.proofs.ModelKinds.{queue_other}
use Rattle.driver_core.proofs.Named.{kinds_same}
use Rattle.driver_core.proofs.StillContent.{content_still, queue_of}
use Rattle.driver_core.proofs.TickedQueues.{through_by_place, ticked_through}
use Rattle.driver_core.proofs.TickedState.{content_step, content_through}

-- ---- what is kept

abbrev note_if : Bool → LastFlip → Content → Content
note_if b flip what = if b then with_flip flip what else what

-- what becomes of what is kept at this place
abbrev pub noted_through : ℕ → List Due → (p : ℕ) → Content → Content
noted_through time [] p what = what
noted_through time (due ∷ later) p what = noted_through time later p (note_if (p == due.surface) (flip_at time due) what)

abbrev pub noted_object : ℕ → List Due → Object → Object
noted_object time dues object = with_content object (noted_through time dues object.place object.content)

map_same : {X : Type 0} (change : X → X) (xs : List X) → ((x : X) → change x ≡ x) → map change xs ≡ xs
map_same change [] same = refl
map_same change (x ∷ xs) same = λ i. same x i ∷ map_same change xs same i

map_twice : {X Y Z : Type 0} (first : X → Y) (second : Y → Z) (both : X → Z) (xs : List X) → ((x : X) → second (first x) ≡ both x) → map second (map first xs) ≡ map both xs
map_twice first second both [] same = refl
map_twice first second both (x ∷ xs) same = λ i. same x i ∷ map_twice first second both xs same i

pub all_noted_is : (time : ℕ) (dues : List Due) (kept : List Object) → all_noted time dues kept ≡ map (noted_object time dues) kept
all_noted_is time [] kept = sym (map_same (noted_object time []) kept (λ o. refl))
all_noted_is time (due ∷ later) kept =
    all_noted_is time later (map (noted due.surface (flip_at time due)) kept)
    ∙ map_twice (noted due.surface (flip_at time due)) (noted_object time later) (noted_object time (due ∷ later)) kept (λ o. refl)

-- ---- one flip, one tick

module _ (queues : List (Queue Surface)) (owed : Bool) (queue time : ℕ) where
  flip_content : (what : model.Content) (kept : Content) → IsContent queues owed what kept → IsContent queues owed (clock.with_flip queue time what) (with_flip (record { queue = queue; time = time }) kept)
  flip_content (model.DeviceObject of) (content.Device kept) is = is
  flip_content (model.DeviceObject of) (content.Video kept) is = is
  flip_content (model.DeviceObject of) (content.Output kept) is = is
  flip_content (model.DeviceObject of) (content.Decoder kept) is = is
  flip_content (model.DeviceObject of) (content.Mixer kept) is = is
  flip_content (model.DeviceObject of) (content.Queue kept) is = is
  flip_content (model.VideoObject of) (content.Device kept) is = is
  flip_content (model.VideoObject of) (content.Video kept) is = is
  flip_content (model.VideoObject of) (content.Output kept) is = is
  flip_content (model.VideoObject of) (content.Decoder kept) is = is
  flip_content (model.VideoObject of) (content.Mixer kept) is = is
  flip_content (model.VideoObject of) (content.Queue kept) is = is
  flip_content (model.OutputObject of) (content.Device kept) is = is
  flip_content (model.OutputObject of) (content.Video kept) is = is
  flip_content (model.OutputObject of) (content.Output kept) is = (is.0, is.1, refl, is.3)
  flip_content (model.OutputObject of) (content.Decoder kept) is = is
  flip_content (model.OutputObject of) (content.Mixer kept) is = is
  flip_content (model.OutputObject of) (content.Queue kept) is = is
  flip_content (model.DecoderObject of) (content.Device kept) is = is
  flip_content (model.DecoderObject of) (content.Video kept) is = is
  flip_content (model.DecoderObject of) (content.Output kept) is = is
  flip_content (model.DecoderObject of) (content.Decoder kept) is = is
  flip_content (model.DecoderObject of) (content.Mixer kept) is = is
  flip_content (model.DecoderObject of) (content.Queue kept) is = is
  flip_content (model.MixerObject of) (content.Device kept) is = is
  flip_content (model.MixerObject of) (content.Video kept) is = is
  flip_content (model.MixerObject of) (content.Output kept) is = is
  flip_content (model.MixerObject of) (content.Decoder kept) is = is
  flip_content (model.MixerObject of) (content.Mixer kept) is = is
  flip_content (model.MixerObject of) (content.Queue kept) is = is
  flip_content (model.QueueObject of) (content.Device kept) is = is
  flip_content (model.QueueObject of) (content.Video kept) is = is
  flip_content (model.QueueObject of) (content.Output kept) is = is
  flip_content (model.QueueObject of) (content.Decoder kept) is = is
  flip_content (model.QueueObject of) (content.Mixer kept) is = is
  flip_content (model.QueueObject of) (content.Queue kept) is = is

  flip_if_content : (b : Bool) (what : model.Content) (kept : Content) → IsContent queues owed what kept
      → IsContent queues owed (if b then clock.with_flip queue time what else what) (note_if b (record { queue = queue; time = time }) kept)
  flip_if_content true what kept is = flip_content what kept is
  flip_if_content false what kept is = is

module _ (time : ℕ) where
  other_tick : (what : model.Content) → model.as_queue what ≡ None → clock.with_tick time what ≡ what
  other_tick (model.DeviceObject of) none = refl
  other_tick (model.VideoObject of) none = refl
  other_tick (model.OutputObject of) none = refl
  other_tick (model.DecoderObject of) none = refl
  other_tick (model.MixerObject of) none = refl
  other_tick (model.QueueObject of) none = absurd (none-some of (sym none))

  other_tick_if : (b : Bool) (what : model.Content) → model.as_queue what ≡ None → (if b then clock.with_tick time what else what) ≡ what
  other_tick_if true what none = other_tick what none
  other_tick_if false what none = refl

  other_flip : (queue : ℕ) (what : model.Content) → model.as_queue what ≡ None → model.as_queue (clock.with_flip queue time what) ≡ None
  other_flip queue (model.DeviceObject of) none = refl
  other_flip queue (model.VideoObject of) none = refl
  other_flip queue (model.OutputObject of) none = refl
  other_flip queue (model.DecoderObject of) none = refl
  other_flip queue (model.MixerObject of) none = refl
  other_flip queue (model.QueueObject of) none = absurd (none-some of (sym none))

  other_flip_if : (b : Bool) (queue : ℕ) (what : model.Content) → model.as_queue what ≡ None → model.as_queue (if b then clock.with_flip queue time what else what) ≡ None
  other_flip_if true queue what none = other_flip queue what none
  other_flip_if false queue what none = none

  -- ---- one tick after the other

  -- an object that is no queue
  through_other : (queues : List (Queue Surface)) (owed : Bool) (dues : List Due) (p : ℕ) (what : model.Content) (kept : Content) → model.as_queue what ≡ None → IsContent queues owed what kept
      → IsContent queues owed (content_through time (map placed dues) p what) (noted_through time dues p kept)
  through_other queues owed [] p what kept none is = is
  through_other queues owed (due ∷ later) p what kept none is =
      let same : content_step time (placed due) p what ≡ (if p == due.surface then clock.with_flip due.queue time what else what) = ap (λ c. if p == due.surface then clock.with_flip due.queue time c else c) (other_tick_if (p == due.queue) what none) in
      through_other queues owed later p (content_step time (placed due) p what) (note_if (p == due.surface) (flip_at time due) kept)
      (ap model.as_queue same ∙ other_flip_if (p == due.surface) due.queue what none)
      (subst (λ c. IsContent queues owed c (note_if (p == due.surface) (flip_at time due) kept)) (sym same) (flip_if_content queues owed due.queue time (p == due.surface) what kept is))

  -- a queue
  queue_step : (f t : Bool) (queue : ℕ) (of : model.PresentationQueue)
      → (if f then clock.with_flip queue time (if t then clock.with_tick time (model.QueueObject of) else model.QueueObject of) else (if t then clock.with_tick time (model.QueueObject of) else model.QueueObject of))
      ≡ model.QueueObject (record of { queue = if t then ticked of.queue time else of.queue })
  queue_step true true queue of = refl
  queue_step true false queue of = refl
  queue_step false true queue of = refl
  queue_step false false queue of = refl

  pub through_queue : (dues : List clock.Due) (p : ℕ) (of : model.PresentationQueue)
      → content_through time dues p (model.QueueObject of) ≡ model.QueueObject (record of { queue = ticked_through (λ (due : clock.Due). p == due.queue) time dues of.queue })
  through_queue [] p of = refl
  through_queue (due ∷ later) p of =
      ap (content_through time later p) (queue_step (p == due.surface) (p == due.queue) due.queue of) ∙ through_queue later p (record of { queue = if p == due.queue then ticked of.queue time else of.queue })

  noted_queue : (dues : List Due) (p : ℕ) (of : PresentationQueue) → noted_through time dues p (content.Queue of) ≡ content.Queue of
  noted_queue [] p of = refl
  noted_queue (due ∷ later) p of = ap (noted_through time later p) (by_test (p == due.surface)) ∙ noted_queue later p of where
    by_test : (b : Bool) → note_if b (flip_at time due) (content.Queue of) ≡ content.Queue of
    by_test true = refl
    by_test false = refl

  module _ (before after : List (Queue Surface)) (owed : Bool) (dues : List Due) (p : ℕ) where
    -- the queue of this number is ticked as often as that of this place
    pub record IsTicked (number : ℕ) : Type 0 where
      pub queue : queue_at after number ≡ ticked_through (λ (due : Due). number == due.number) time dues (queue_at before number)
      pub same : (i : ℕ) (due : Due) → slice_get dues i ≡ Some due → (number == due.number) ≡ (p == due.queue)

    through_own : (what : model.Content) (of : PresentationQueue) → IsTicked of.number → IsContent before owed what (content.Queue of)
        → IsContent after owed (content_through time (map placed dues) p what) (noted_through time dues p (content.Queue of))
    through_own what of ticks is =
        let q = queue_of before owed what of is in
        let now = through_queue (map placed dues) p q.0 in
        let there : ticked_through (λ (due : clock.Due). p == due.queue) time (map placed dues) q.0.queue ≡ by_place (queue_at after of.number) =
        ap (ticked_through (λ (due : clock.Due). p == due.queue) time (map placed dues)) q.3
        ∙ (sym (through_by_place (λ (due : Due). of.number == due.number) (λ (due : clock.Due). p == due.queue) placed time dues (queue_at before of.number) ticks.same) ∙ ap by_place (sym ticks.queue)) in
        let kept_is = noted_queue dues p of in
        subst (λ k. IsContent after owed (content_through time (map placed dues) p what) k) (sym kept_is)
        (subst (λ c. IsContent after owed c (content.Queue of)) (sym (ap (content_through time (map placed dues) p) q.1 ∙ now)) (q.2, there))

    -- any object
    pub through_content : (what : model.Content) (kept : Content) → ((number : ℕ) → number_of kept ≡ Some number → IsTicked number) → IsContent before owed what kept
        → IsContent after owed (content_through time (map placed dues) p what) (noted_through time dues p kept)
    through_content what (content.Device of) ticks is = through_other after owed dues p what (content.Device of) (queue_other what (λ e. let k = kinds_same before owed what (content.Device of) is in omega (arith, k, e))) (content_still before after owed what (content.Device of) (λ queue has. absurd (cc)) is)
    through_content what (content.Video of) ticks is = through_other after owed dues p what (content.Video of) (queue_other what (λ e. let k = kinds_same before owed what (content.Video of) is in omega (arith, k, e))) (content_still before after owed what (content.Video of) (λ queue has. absurd (cc)) is)
    through_content what (content.Output of) ticks is = through_other after owed dues p what (content.Output of) (queue_other what (λ e. let k = kinds_same before owed what (content.Output of) is in omega (arith, k, e))) (content_still before after owed what (content.Output of) (λ queue has. absurd (cc)) is)
    through_content what (content.Decoder of) ticks is = through_other after owed dues p what (content.Decoder of) (queue_other what (λ e. let k = kinds_same before owed what (content.Decoder of) is in omega (arith, k, e))) (content_still before after owed what (content.Decoder of) (λ queue has. absurd (cc)) is)
    through_content what (content.Mixer of) ticks is = through_other after owed dues p what (content.Mixer of) (queue_other what (λ e. let k = kinds_same before owed what (content.Mixer of) is in omega (arith, k, e))) (content_still before after owed what (content.Mixer of) (λ queue has. absurd (cc)) is)
    through_content what (content.Queue of) ticks is = through_own what of (ticks of.number refl) is

-- ---- the device's time

pub number_timed : (time : ℕ) (kept : Content) → number_of (with_time time kept) ≡ number_of kept
number_timed time (content.Device of) = refl
number_timed time (content.Video of) = refl
number_timed time (content.Output of) = refl
number_timed time (content.Decoder of) = refl
number_timed time (content.Mixer of) = refl
number_timed time (content.Queue of) = refl

pub number_timed_if : (b : Bool) (time : ℕ) (kept : Content) → number_of (if b then with_time time kept else kept) ≡ number_of kept
number_timed_if true time kept = number_timed time kept
number_timed_if false time kept = refl

module _ (queues : List (Queue Surface)) (owed : Bool) (on time : ℕ) (of : model.Device) where
  device_timed : (kept : Content) → IsContent queues owed (model.DeviceObject of) kept → IsContent queues owed (model.DeviceObject (record of { time = time })) (with_time time kept)
  device_timed (content.Device kept) is = (refl, is.1)
  device_timed (content.Video kept) is = is
  device_timed (content.Output kept) is = is
  device_timed (content.Decoder kept) is = is
  device_timed (content.Mixer kept) is = is
  device_timed (content.Queue kept) is = is

  pub timed_content : (p : ℕ) (what : model.Content) (kept : Content) → (p ≡ on → what ≡ model.DeviceObject of) → IsContent queues owed what kept
      → IsContent queues owed (if p == on then model.DeviceObject (record of { time = time }) else what) (if p == on then with_time time kept else kept)
  timed_content p what kept device is = by_test (p == on) refl where
    by_test : (b : Bool) → (p == on) ≡ b → IsContent queues owed (if b then model.DeviceObject (record of { time = time }) else what) (if b then with_time time kept else kept)
    by_test true test = device_timed kept (subst (λ c. IsContent queues owed c kept) (device (grind (arith, nat_tests, test))) is)
    by_test false test = is
