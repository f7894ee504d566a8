-- What an object has, in the part about a device: the same, but for the places that it names. What the steps do to contents is
-- the same there.
use Rattle.std.proofs.Common.{◌≡◌, ℕ, ◌==◌, nat_le, nat_lt, Bool, true, false, if◌then◌else◌, List, [], ◌∷◌, map, Option, Some, None, Result, Ok, Err, refl, ap, sym}
use Rattle.std.proofs.lemmas.List.{length-map, map-append}
use Rattle.std.specs.Option.{is_some, option_map}
use Rattle.present_queue.specs.Queue.{Queue, Queued, answer_to_display, displayed, due, first_due, most_entries, ticked, ticked_by}
use Rattle.vd_status.specs.declared.refusal.Refusal.{Refusal}
use Rattle.vd_status.specs.declared.refusal.Refusal.TheVariants.{EarlierThanPromise, QueueFull}
use Rattle.driver_model.specs.Clock.{let_go, with_flip, with_tick}
use Rattle.driver_model.specs.Objects.{Content, DeviceObject, VideoObject, OutputObject, DecoderObject, MixerObject, QueueObject, OutputSurface, LastFlip, Object, PresentationQueue, as_decoder, as_device, as_mixer, as_output, as_queue, as_video}
use Rattle.driver_model.proofs.PartPlaces.{Cut, kept, place_in}

-- what a display answers, by the number of entries and the promise
abbrev answer_by : (count promise earliest : ℕ) → Result (Unit {0}) Refusal
answer_by count promise earliest =
    if count == most_entries then Err QueueFull else if nat_lt earliest promise then Err (EarlierThanPromise promise) else Ok tt

module _ (c : Cut) where
  abbrev pub moved_entry : Queued ℕ → Queued ℕ
  moved_entry entry = record { surface = place_in c entry.surface; earliest = entry.earliest }

  abbrev pub moved_queue : Queue ℕ → Queue ℕ
  moved_queue queue = record { entries = map moved_entry queue.entries; visible = option_map (place_in c) queue.visible; promise = queue.promise }

  abbrev pub moved_presentation : PresentationQueue → PresentationQueue
  moved_presentation of = record of { queue = moved_queue of.queue }

  abbrev pub moved_flip : LastFlip → LastFlip
  moved_flip flip = record flip { queue = place_in c flip.queue }

  abbrev pub moved_output : OutputSurface → OutputSurface
  moved_output of = record of { last_flip = option_map moved_flip of.last_flip }

  abbrev pub moved_content : Content → Content
  moved_content (DeviceObject of) = DeviceObject of
  moved_content (VideoObject of) = VideoObject of
  moved_content (OutputObject of) = OutputObject (moved_output of)
  moved_content (DecoderObject of) = DecoderObject of
  moved_content (MixerObject of) = MixerObject of
  moved_content (QueueObject of) = QueueObject (moved_presentation of)

  abbrev pub moved_object : Object → Object
  moved_object object = record object { device = place_in c object.device; content = moved_content object.content }

  -- the device's own objects
  abbrev pub part_of : List Object → List Object
  part_of objects = kept moved_object c.own objects

  -- ---- kinds

  -- an object is of a kind in the part where it is in the whole
  abbrev pub Moves : {T : Type 0} → (Content → Option T) → (T → T) → Type 0
  Moves as_kind move = (content : Content) → as_kind (moved_content content) ≡ option_map move (as_kind content)

  pub device_moves : Moves as_device (λ of. of)
  device_moves (DeviceObject of) = refl
  device_moves (VideoObject of) = refl
  device_moves (OutputObject of) = refl
  device_moves (DecoderObject of) = refl
  device_moves (MixerObject of) = refl
  device_moves (QueueObject of) = refl

  pub video_moves : Moves as_video (λ of. of)
  video_moves (DeviceObject of) = refl
  video_moves (VideoObject of) = refl
  video_moves (OutputObject of) = refl
  video_moves (DecoderObject of) = refl
  video_moves (MixerObject of) = refl
  video_moves (QueueObject of) = refl

  pub output_moves : Moves as_output moved_output
  output_moves (DeviceObject of) = refl
  output_moves (VideoObject of) = refl
  output_moves (OutputObject of) = refl
  output_moves (DecoderObject of) = refl
  output_moves (MixerObject of) = refl
  output_moves (QueueObject of) = refl

  pub decoder_moves : Moves as_decoder (λ of. of)
  decoder_moves (DeviceObject of) = refl
  decoder_moves (VideoObject of) = refl
  decoder_moves (OutputObject of) = refl
  decoder_moves (DecoderObject of) = refl
  decoder_moves (MixerObject of) = refl
  decoder_moves (QueueObject of) = refl

  pub mixer_moves : Moves as_mixer (λ of. of)
  mixer_moves (DeviceObject of) = refl
  mixer_moves (VideoObject of) = refl
  mixer_moves (OutputObject of) = refl
  mixer_moves (DecoderObject of) = refl
  mixer_moves (MixerObject of) = refl
  mixer_moves (QueueObject of) = refl

  pub queue_moves : Moves as_queue moved_presentation
  queue_moves (DeviceObject of) = refl
  queue_moves (VideoObject of) = refl
  queue_moves (OutputObject of) = refl
  queue_moves (DecoderObject of) = refl
  queue_moves (MixerObject of) = refl
  queue_moves (QueueObject of) = refl

  pub is_device-moved : (content : Content) → is_some (as_device (moved_content content)) ≡ is_some (as_device content)
  is_device-moved (DeviceObject of) = refl
  is_device-moved (VideoObject of) = refl
  is_device-moved (OutputObject of) = refl
  is_device-moved (DecoderObject of) = refl
  is_device-moved (MixerObject of) = refl
  is_device-moved (QueueObject of) = refl

  pub is_queue-moved : (content : Content) → is_some (as_queue (moved_content content)) ≡ is_some (as_queue content)
  is_queue-moved (DeviceObject of) = refl
  is_queue-moved (VideoObject of) = refl
  is_queue-moved (OutputObject of) = refl
  is_queue-moved (DecoderObject of) = refl
  is_queue-moved (MixerObject of) = refl
  is_queue-moved (QueueObject of) = refl

  -- ---- queues

  due-of : (entries : List (Queued ℕ)) (time : ℕ) → first_due (map moved_entry entries) time ≡ option_map moved_entry (first_due entries time)
  due-of [] time = refl
  due-of (entry ∷ rest) time = by_time (nat_le entry.earliest time) where
    by_time : (is_due : Bool) → (let o : Option (Queued ℕ) = if is_due then Some (moved_entry entry) else None in o) ≡ option_map moved_entry (if is_due then Some entry else None)
    by_time true = refl
    by_time false = refl

  pub due-moved : (queue : Queue ℕ) (time : ℕ) → due (moved_queue queue) time ≡ option_map moved_entry (due queue time)
  due-moved queue time = due-of queue.entries time

  ticked-of : (entries : List (Queued ℕ)) (visible : Option ℕ) (promise time : ℕ)
      → ticked (moved_queue (record { entries = entries; visible = visible; promise = promise })) time ≡ moved_queue (ticked (record { entries = entries; visible = visible; promise = promise }) time)
  ticked-of [] visible promise time = refl
  ticked-of (entry ∷ rest) visible promise time = by_time (nat_le entry.earliest time) where
    by_time : (is_due : Bool) → ticked_by (if is_due then Some (moved_entry entry) else None) (moved_queue (record { entries = entry ∷ rest; visible = visible; promise = promise }))
        ≡ moved_queue (ticked_by (if is_due then Some entry else None) (record { entries = entry ∷ rest; visible = visible; promise = promise }))
    by_time true = refl
    by_time false = refl

  pub ticked-moved : (queue : Queue ℕ) (time : ℕ) → ticked (moved_queue queue) time ≡ moved_queue (ticked queue time)
  ticked-moved queue time = ticked-of queue.entries queue.visible queue.promise time

  pub answer-moved : (queue : Queue ℕ) (earliest : ℕ) → answer_to_display (moved_queue queue) earliest ≡ answer_to_display queue earliest
  answer-moved queue earliest = ap (λ n. answer_by n queue.promise earliest) (length-map queue.entries moved_entry)

  pub displayed-moved : (queue : Queue ℕ) (entry : Queued ℕ) → displayed (moved_queue queue) (moved_entry entry) ≡ moved_queue (displayed queue entry)
  displayed-moved queue entry =
      ap (λ l. record { entries = l; visible = option_map (place_in c) queue.visible; promise = queue.promise }) (sym (map-append moved_entry queue.entries (entry ∷ [])))

  -- ---- what steps do to contents

  pub with_tick-moved : (time : ℕ) (content : Content) → moved_content (with_tick time content) ≡ with_tick time (moved_content content)
  with_tick-moved time (DeviceObject of) = refl
  with_tick-moved time (VideoObject of) = refl
  with_tick-moved time (OutputObject of) = refl
  with_tick-moved time (DecoderObject of) = refl
  with_tick-moved time (MixerObject of) = refl
  with_tick-moved time (QueueObject of) = ap (λ q. QueueObject (record of { queue = q })) (sym (ticked-moved of.queue time))

  pub with_flip-moved : (queue time : ℕ) (content : Content) → moved_content (with_flip queue time content) ≡ with_flip (place_in c queue) time (moved_content content)
  with_flip-moved queue time (DeviceObject of) = refl
  with_flip-moved queue time (VideoObject of) = refl
  with_flip-moved queue time (OutputObject of) = refl
  with_flip-moved queue time (DecoderObject of) = refl
  with_flip-moved queue time (MixerObject of) = refl
  with_flip-moved queue time (QueueObject of) = refl

  pub let_go-moved : (content : Content) → moved_content (let_go content) ≡ let_go (moved_content content)
  let_go-moved (DeviceObject of) = refl
  let_go-moved (VideoObject of) = refl
  let_go-moved (OutputObject of) = refl
  let_go-moved (DecoderObject of) = refl
  let_go-moved (MixerObject of) = refl
  let_go-moved (QueueObject of) = refl
