-- Which object a call's first handle was found to be, and that a create found room.
use Rattle.std.proofs.Common.{◌≡◌, ℕ, ◌==◌, nat_le, nat_lt, Bool, true, false, not, ◌&&◌, ◌||◌, List, length, Option, Some, Ok, Err, refl, subst}
use Rattle.cb_types.specs.declared.picture_info.PictureInfo.{PictureInfo}
use Rattle.present_queue.specs.Queue.{answer_to_display}
use Rattle.vd_status.specs.declared.refusal.Refusal.TheVariants.{BadChroma, BadInfo, BadProfile, BadRgba, BadSize, BadStructure, BadYCbCr, TargetIsReference, TimeNotAfter}
use Rattle.driver_model.specs.Clock.{advance, device}
use Rattle.driver_model.specs.Creates.{decoder_create, device_create, handles_full, is_full, live_devices, live_queues, mixer_create, output_create, queue_create, room, video_create}
use Rattle.driver_model.specs.Mixes.{Mixing, mix}
use Rattle.driver_model.specs.Objects.{Device, VideoSurface, OutputSurface, PresentationQueue, Decoder, VideoMixer, as_decoder, as_device, as_mixer, as_output, as_queue, as_video}
use Rattle.driver_model.specs.Queues.{QueueAndSurface, presented, queue, queue_display}
use Rattle.driver_model.specs.Refusals.{Looked, ◌>>=◌, ◌>>◌, first_handle, further_handle, refused_if}
use Rattle.driver_model.specs.Renders.{Rendering, info_taken, is_of_other_size, is_own_reference, references, render, rendering}
use Rattle.driver_model.specs.Sizes.{is_profile, is_rgba_format, is_same_size, is_ycbcr_format, pixel_bytes, sample_bytes, size_for}
use Rattle.driver_model.specs.States.{State, Found, named}
use Rattle.driver_model.specs.Surfaces.{output, output_bits, video, video_bits}
use Rattle.driver_model.specs.declared.numbers.TheConstants.{CHROMA_420, FRAME, MAX_DEVICES, MAX_QUEUES, MAX_REFERENCES}
use Rattle.driver_model.proofs.Looks.{err_not_ok, first_handle-Ok, ok_is}
use Rattle.driver_model.proofs.SoundLooks.{further-Ok}

-- What a look finds is so.
abbrev pub Finds : {A : Type 0} → (A → Type 0) → Looked A → Type 0
Finds {A} P m = (a : A) → m ≡ Ok a → P a

pub then_finds : {A B : Type 0} (P : B → Type 0) (m : Looked A) (later : A → Looked B) → ((a : A) → m ≡ Ok a → Finds P (later a)) → Finds P (m >>= later)
then_finds P (Ok a) later rest b e = rest a refl b e
then_finds P (Err refusal) later rest b e = absurd (err_not_ok refusal b e)

pub guard_finds : {B : Type 0} (P : B → Type 0) (m : Looked (Unit {0})) (later : Looked B) → Finds P later → Finds P (m >> later)
guard_finds P (Ok nothing) later rest b e = rest b e
guard_finds P (Err refusal) later rest b e = absurd (err_not_ok refusal b e)

pub ok_finds : {A : Type 0} (P : A → Type 0) (a : A) → P a → Finds P (Ok a)
ok_finds P a is b e = subst P (ok_is a b e) is

module _ (s : State) where
  -- ---- surfaces, devices and queues

  pub video_bits_named : (surface format count : ℕ) → Finds (λ (on : Found VideoSurface). named s as_video surface ≡ Some on) (video_bits s surface format count)
  video_bits_named surface format count =
      let P : Found VideoSurface → Type 0 = λ on. named s as_video surface ≡ Some on in
      let sized : Found VideoSurface → Looked (Found VideoSurface) = λ at. refused_if (not (count == sample_bytes at.value.size)) BadSize >> Ok at in
      then_finds P (video s surface) (λ at. refused_if (not (is_ycbcr_format format)) BadYCbCr >> sized at) (λ at e.
      guard_finds P (refused_if (not (is_ycbcr_format format)) BadYCbCr) (sized at)
      (guard_finds P (refused_if (not (count == sample_bytes at.value.size)) BadSize) (Ok at) (ok_finds P at (first_handle-Ok s (named s as_video surface) at e))))

  pub output_bits_named : (surface count : ℕ) → Finds (λ (on : Found OutputSurface). named s as_output surface ≡ Some on) (output_bits s surface count)
  output_bits_named surface count =
      let P : Found OutputSurface → Type 0 = λ on. named s as_output surface ≡ Some on in
      then_finds P (output s surface) (λ at. refused_if (not (count == pixel_bytes at.value.size)) BadSize >> Ok at) (λ at e.
      guard_finds P (refused_if (not (count == pixel_bytes at.value.size)) BadSize) (Ok at) (ok_finds P at (first_handle-Ok s (named s as_output surface) at e)))

  pub advance_named : (handle time : ℕ) → Finds (λ (on : Found Device). named s as_device handle ≡ Some on) (advance s handle time)
  advance_named handle time =
      let P : Found Device → Type 0 = λ on. named s as_device handle ≡ Some on in
      then_finds P (device s handle) (λ at. refused_if (nat_le time at.value.time) (TimeNotAfter at.value.time) >> Ok at) (λ at e.
      guard_finds P (refused_if (nat_le time at.value.time) (TimeNotAfter at.value.time)) (Ok at) (ok_finds P at (first_handle-Ok s (named s as_device handle) at e)))

  abbrev pair_of : Found PresentationQueue → Found OutputSurface → QueueAndSurface
  pair_of one other = record { queue = one; surface = other }

  presented_named : (handle surface : ℕ) → Finds (λ (on : QueueAndSurface). named s as_queue handle ≡ Some on.queue) (presented s handle surface)
  presented_named handle surface =
      let P : QueueAndSurface → Type 0 = λ on. named s as_queue handle ≡ Some on.queue in
      let inner : Found PresentationQueue → Found OutputSurface → Looked QueueAndSurface = λ one other. Ok (pair_of one other) in
      then_finds P (queue s handle) (λ one. further_handle 1 one.device (named s as_output surface) >>= inner one) (λ one e.
      then_finds P (further_handle 1 one.device (named s as_output surface)) (inner one) (λ other k. ok_finds P (pair_of one other) (first_handle-Ok s (named s as_queue handle) one e)))

  pub display_named : (handle surface earliest : ℕ) → Finds (λ (on : QueueAndSurface). named s as_queue handle ≡ Some on.queue) (queue_display s handle surface earliest)
  display_named handle surface earliest =
      let P : QueueAndSurface → Type 0 = λ on. named s as_queue handle ≡ Some on.queue in
      then_finds P (presented s handle surface) (λ at. answer_to_display at.queue.value.queue earliest >> Ok at) (λ at e.
      guard_finds P (answer_to_display at.queue.value.queue earliest) (Ok at) (ok_finds P at (presented_named handle surface at e)))

  -- ---- jobs

  abbrev mixing_of : Found VideoMixer → Found VideoSurface → Found OutputSurface → Mixing
  mixing_of one two three = record { mixer = one; video = two; output = three }

  abbrev pub IsMixOn : ℕ → ℕ → Mixing → Type 0
  IsMixOn handle onto on = (named s as_mixer handle ≡ Some on.mixer) × (named s as_output onto ≡ Some on.output) × (on.output.device ≡ on.mixer.device)

  pub mix_named : (handle structure surface onto : ℕ) → Finds (IsMixOn handle onto) (mix s handle structure surface onto)
  mix_named handle structure surface onto =
      let P : Mixing → Type 0 = IsMixOn handle onto in
      let fit : Found VideoMixer → Found VideoSurface → Found OutputSurface → Bool = λ one two three. not (is_same_size one.value.size two.value.size && is_same_size one.value.size three.value.size) in
      let sized : Found VideoMixer → Found VideoSurface → Found OutputSurface → Looked Mixing = λ one two three. refused_if (fit one two three) BadSize >> Ok (mixing_of one two three) in
      let last : Found VideoMixer → Found VideoSurface → Found OutputSurface → Looked Mixing = λ one two three. refused_if (not (structure == FRAME)) BadStructure >> sized one two three in
      let third : Found VideoMixer → Found VideoSurface → Looked Mixing = λ one two. further_handle 2 one.device (named s as_output onto) >>= last one two in
      then_finds P (first_handle s (named s as_mixer handle)) (λ one. further_handle 1 one.device (named s as_video surface) >>= third one) (λ one e.
      then_finds P (further_handle 1 one.device (named s as_video surface)) (third one) (λ two k.
      then_finds P (further_handle 2 one.device (named s as_output onto)) (last one two) (λ three h.
      let device = further-Ok 2 one.device (named s as_output onto) three h in
      guard_finds P (refused_if (not (structure == FRAME)) BadStructure) (sized one two three)
      (guard_finds P (refused_if (fit one two three) BadSize) (Ok (mixing_of one two three))
      (ok_finds P (mixing_of one two three) (first_handle-Ok s (named s as_mixer handle) one e, device.0, device.1))))))

  abbrev rendering_of : Found Decoder → Found VideoSurface → List (Option (Found VideoSurface)) → Rendering
  rendering_of one two three = record { decoder = one; target = two; references = three }

  abbrev pub IsRenderOn : ℕ → ℕ → Rendering → Type 0
  IsRenderOn handle surface on = (named s as_decoder handle ≡ Some on.decoder) × (named s as_video surface ≡ Some on.target) × (on.target.device ≡ on.decoder.device)

  pub render_named : (handle surface : ℕ) (info : PictureInfo) → Finds (IsRenderOn handle surface) (render s handle surface info)
  render_named handle surface info =
      let P : Rendering → Type 0 = IsRenderOn handle surface in
      let taken : Rendering → Looked Rendering = λ at. info_taken at.decoder.value info >> Ok at in
      let sized : Rendering → Looked Rendering = λ at. refused_if (is_of_other_size at) BadSize >> taken at in
      let last : Found Decoder → Found VideoSurface → List (Option (Found VideoSurface)) → Looked Rendering = λ one two three. Ok (rendering_of one two three) in
      let third : Found Decoder → Found VideoSurface → Looked Rendering = λ one two. references s one.device 2 info.references >>= last one two in
      let found : Finds P (rendering s handle surface info.references) =
      then_finds P (first_handle s (named s as_decoder handle)) (λ one. further_handle 1 one.device (named s as_video surface) >>= third one) (λ one e.
      then_finds P (further_handle 1 one.device (named s as_video surface)) (third one) (λ two k.
      let device = further-Ok 1 one.device (named s as_video surface) two k in
      then_finds P (references s one.device 2 info.references) (last one two) (λ three h. ok_finds P (rendering_of one two three) (first_handle-Ok s (named s as_decoder handle) one e, device.0, device.1)))) in
      then_finds P (rendering s handle surface info.references) (λ at. refused_if (is_own_reference at) TargetIsReference >> sized at) (λ at e.
      guard_finds P (refused_if (is_own_reference at) TargetIsReference) (sized at)
      (guard_finds P (refused_if (is_of_other_size at) BadSize) (taken at) (guard_finds P (info_taken at.decoder.value info) (Ok at) (ok_finds P at (found at e)))))

  -- ---- creates

  -- The object's device is there, and there was room, also of its kind.
  abbrev pub IsMadeAt : (name : ℕ) (full : Bool) (place : ℕ) → Type 0
  IsMadeAt name full place = ((is_full s || full) ≡ false) × (found : Found Device) × (named s as_device name ≡ Some found) × (found.place ≡ place)

  room_finds : (P : ℕ → Type 0) (full : Bool) (place : ℕ) → ((is_full s || full) ≡ false → P place) → Finds P (room s full >> Ok place)
  room_finds P full place is = by_value (is_full s || full) refl where
    by_value : (b : Bool) → (is_full s || full) ≡ b → Finds P (refused_if b (handles_full s) >> Ok place)
    by_value true e a k = absurd (err_not_ok (handles_full s) a k)
    by_value false e a k = ok_finds P place (is e) a k

  made_on : (name : ℕ) (full : Bool) (found : Found Device) → first_handle s (named s as_device name) ≡ Ok found → Finds (IsMadeAt name full) (room s full >> Ok found.place)
  made_on name full found e = room_finds (IsMadeAt name full) full found.place (λ free. (free, found, first_handle-Ok s (named s as_device name) found e, refl))

  pub device_made : Finds (λ place. ((is_full s || (live_devices s == MAX_DEVICES)) ≡ false) × (place ≡ length s.objects)) (device_create s)
  device_made = room_finds (λ place. ((is_full s || (live_devices s == MAX_DEVICES)) ≡ false) × (place ≡ length s.objects)) (live_devices s == MAX_DEVICES) (length s.objects) (λ free. (free, refl))

  pub video_made : (name chroma width height : ℕ) → Finds (IsMadeAt name false) (video_create s name chroma width height)
  video_made name chroma width height =
      let sized : Found Device → Looked ℕ = λ found. size_for width height >>= λ _. room s false >> Ok found.place in
      then_finds (IsMadeAt name false) (first_handle s (named s as_device name)) (λ found. refused_if (not (chroma == CHROMA_420)) BadChroma >> sized found) (λ found e.
      guard_finds (IsMadeAt name false) (refused_if (not (chroma == CHROMA_420)) BadChroma) (sized found)
      (then_finds (IsMadeAt name false) (size_for width height) (λ _. room s false >> Ok found.place) (λ size k. made_on name false found e)))

  pub output_made : (name format width height : ℕ) → Finds (IsMadeAt name false) (output_create s name format width height)
  output_made name format width height =
      let sized : Found Device → Looked ℕ = λ found. size_for width height >>= λ _. room s false >> Ok found.place in
      then_finds (IsMadeAt name false) (first_handle s (named s as_device name)) (λ found. refused_if (not (is_rgba_format format)) BadRgba >> sized found) (λ found e.
      guard_finds (IsMadeAt name false) (refused_if (not (is_rgba_format format)) BadRgba) (sized found)
      (then_finds (IsMadeAt name false) (size_for width height) (λ _. room s false >> Ok found.place) (λ size k. made_on name false found e)))

  pub decoder_made : (name profile width height max_references : ℕ) → Finds (IsMadeAt name false) (decoder_create s name profile width height max_references)
  decoder_made name profile width height max_references =
      let many : Bool = nat_lt MAX_REFERENCES max_references in
      let counted : Found Device → Looked ℕ = λ found. refused_if many (BadInfo 0) >> (room s false >> Ok found.place) in
      let sized : Found Device → Looked ℕ = λ found. size_for width height >>= λ _. counted found in
      then_finds (IsMadeAt name false) (first_handle s (named s as_device name)) (λ found. refused_if (not (is_profile profile)) BadProfile >> sized found) (λ found e.
      guard_finds (IsMadeAt name false) (refused_if (not (is_profile profile)) BadProfile) (sized found)
      (then_finds (IsMadeAt name false) (size_for width height) (λ _. counted found) (λ size k.
      guard_finds (IsMadeAt name false) (refused_if many (BadInfo 0)) (room s false >> Ok found.place) (made_on name false found e))))

  pub mixer_made : (name width height : ℕ) → Finds (IsMadeAt name false) (mixer_create s name width height)
  mixer_made name width height =
      then_finds (IsMadeAt name false) (first_handle s (named s as_device name)) (λ found. size_for width height >>= λ _. room s false >> Ok found.place) (λ found e.
      then_finds (IsMadeAt name false) (size_for width height) (λ _. room s false >> Ok found.place) (λ size k. made_on name false found e))

  pub queue_made : (name : ℕ) → Finds (IsMadeAt name (live_queues s == MAX_QUEUES)) (queue_create s name)
  queue_made name =
      then_finds (IsMadeAt name (live_queues s == MAX_QUEUES)) (first_handle s (named s as_device name)) (λ found. room s (live_queues s == MAX_QUEUES) >> Ok found.place)
      (λ found e. made_on name (live_queues s == MAX_QUEUES) found e)
