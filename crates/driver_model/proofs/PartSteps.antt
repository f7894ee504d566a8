-- Each call that is about a device is a step of the part, too, with the same reply.
use Rattle.std.proofs.Common.{◌≡◌, ℕ, Bool, true, false, List, [], ◌∷◌, filter_map, length, Option, Some, None, MatchOption, refl, ap, sym, ◌∙◌}
use Rattle.std.specs.Option.{option_map}
use Rattle.bits_io.specs.ByteOrder.{bytes_of}
use Rattle.cb_types.specs.declared.picture_info.PictureInfo.{PictureInfo}
use Rattle.present_queue.specs.Queue.{Queued, displayed, promised}
use Rattle.vd_plane.specs.Picture.{SameSize}
use Rattle.vd_plane.specs.declared.picture.Picture.{Picture}
use Rattle.driver_model.specs.Answers.{Goes, Leaves, Reply, Tells}
use Rattle.driver_model.specs.Creates.{Creates, IsNewVideo, decoder_create, mixer_create, output_create, queue_create, video_create, new_decoder, new_mixer, new_output, new_queue}
use Rattle.driver_model.specs.Mixes.{Mixes, mix}
use Rattle.driver_model.specs.Objects.{Content, VideoObject, OutputObject, MixerObject, QueueObject, VideoSurface, as_decoder, as_device, as_mixer, as_output, as_queue, as_video}
use Rattle.driver_model.specs.Parts.{first_name, is_among, is_out_of_handles, names_in, reference_name}
use Rattle.driver_model.specs.Queues as queues
use Rattle.driver_model.specs.Queues.{QueueAndSurface}
use Rattle.driver_model.specs.Presented.{first_time, is_idle_at, status_at}
use Rattle.driver_model.specs.Refusals.{Looked, first_handle}
use Rattle.driver_model.specs.Renders.{Counts, render}
use Rattle.driver_model.specs.States.{State, Found, destroyed, destroyed_with, is_out, named, time_of, with_content}
use Rattle.driver_model.specs.Steps.{Does}
use Rattle.driver_model.specs.Surfaces as surfaces
use Rattle.driver_model.specs.Wishes.{first_wish}
use Rattle.driver_model.specs.declared.calls.Call.{Call}
use Rattle.driver_model.specs.declared.calls.Call.TheVariants as call
use Rattle.driver_model.specs.declared.replies.Answer.{Answer}
use Rattle.driver_model.specs.declared.replies.Answer.TheVariants.{Bytes, Holds, Size, Status, Supports, Time}
use Rattle.driver_model.proofs.PartContents.{decoder_moves, device_moves, displayed-moved, mixer_moves, moved_content, moved_output, moved_presentation, output_moves, queue_moves, video_moves}
use Rattle.driver_model.proofs.PartCreates.{IsWithinRoom, Makeable, OnRoot, creates_too, makeable_decoder, makeable_mixer, makeable_output, makeable_queue, makeable_video, own_new}
use Rattle.driver_model.proofs.PartClock.{advance_too, destroy_too, preempt_too}
use Rattle.driver_model.proofs.PartFinds.{AreOwn, IsOwnMixing, alike_display, alike_first, alike_mix, alike_output_bits, alike_presented, alike_video_bits, moved_mixing, moved_pair}
use Rattle.driver_model.proofs.PartJobs.{IsOwnRendering, alike_render, counts_too, mixes_too, moved_rendering}
use Rattle.driver_model.proofs.PartLooks.{IsOwnFound, IsOwnName, moved_found, part-time}
use Rattle.driver_model.proofs.PartNotes.{part-out}
use Rattle.driver_model.proofs.PartPlaces.{Cut, place_in}
use Rattle.driver_model.proofs.PartRows.{Too, after_content, after_destroyed, after_destroyed_with, goes_too, leaves_too, tells_too}
use Rattle.driver_model.proofs.PartStates.{Pair, part-first_time, part-idle, part-status}
use Rattle.driver_model.proofs.PartTicks.{AreOf}
use Rattle.driver_model.proofs.PartWishes.{Anything, alike_wish, among_first, among_later, same_value}

module _ (c : Cut) (on : ℕ) (q : ℕ → Option ℕ) (s t : State) (pair : Pair c on q s t) (within : IsWithinRoom s) (new : State) (reply : Reply) (not_full : is_out_of_handles reply ≡ false) (are : AreOf c.own on new.objects) (caller : List ℕ) where
  out : (place : ℕ) → c.own place ≡ true → is_out t (place_in c place) ≡ is_out s place
  out place own = part-out c q s t pair.notes pair.targets place own

  -- an object that a handle names
  module _ {T : Type 0} (as_kind : Content → Option T) (move : T → T) (moves : (content : Content) → as_kind (moved_content c content) ≡ option_map move (as_kind content)) where
    on_first : (name : ℕ) → IsOwnName c.own s.objects name → (D : Found T → Type 0) (E : State → Found T → Type 0)
        → ((found : Found T) → IsOwnFound c on found → D found → Too c on q s t pair new reply (λ u. E u (moved_found c move found)))
        → Goes s reply new (first_handle s (named s as_kind name)) D → Too c on q s t pair new reply (λ u. Goes t reply u (first_handle t (named t as_kind name)) (E u))
    on_first name is_own D E row p =
        goes_too c on q s t pair new reply (moved_found c move) (IsOwnFound c on) (first_handle s (named s as_kind name)) (first_handle t (named t as_kind name)) D E (alike_first c on q s t pair as_kind move moves name is_own) row p

  -- a row that waits for a test to fail
  tells_held : (held there : Bool) (x y : Answer) → there ≡ held → y ≡ x → (held ≡ false) × Tells s reply new x → Too c on q s t pair new reply (λ u. (there ≡ false) × Tells t reply u y)
  tells_held held there x y same is p = let r = tells_too c on q s t pair new reply x y is p.1 in (r.0, (same ∙ p.0, r.1), r.2)

  abbrev Step : Call → State → Type 0
  Step call u = Does t caller call reply u

  -- ---- creates

  content_is : (is : Content) → moved_content c is ≡ is → (content : Content) → content ≡ is → moved_content c content ≡ content
  content_is is same content e = ap (moved_content c) e ∙ (same ∙ sym e)

  creates_on : (m n : Looked ℕ) (IsContent : Content → Type 0) → ((content : Content) → IsContent content → moved_content c content ≡ content) → Makeable c (OnRoot c on q s t pair within) m n
      → Creates s reply new m IsContent → Too c on q s t pair new reply (λ u. Creates t reply u n IsContent)
  creates_on m n IsContent moves makeable p =
      creates_too c on q s t pair within new reply not_full (OnRoot c on q s t pair within) m n IsContent moves makeable (own_new c on q s t pair within new reply not_full are) p

  -- ---- waits

  wait_too : (place : Option ℕ) → MatchOption place ⊥ (λ found. Tells s reply new (Holds (Some found))) → Too c on q s t pair new reply (λ u. MatchOption place ⊥ (λ found. Tells t reply u (Holds (Some found))))
  wait_too None p = absurd p
  wait_too (Some found) p = tells_too c on q s t pair new reply (Holds (Some found)) (Holds (Some found)) refl p

  nothing_named : (name : ℕ) → (let o : Option ℕ = None in o ≡ Some name) → ⊥
  nothing_named name e = cc

  -- ---- each call

  abbrev entries : PictureInfo → List ℕ
  entries info = filter_map reference_name info.references

  pub does_own : (call : Call) → (name : ℕ) → first_name call ≡ Some name → ((n : ℕ) → is_among (names_in call) n ≡ true → IsOwnName c.own s.objects n) → Does s caller call reply new → Too c on q s t pair new reply (Step call)
  does_own call.DeviceCreate name first own p = absurd (nothing_named name first)
  does_own (call.DeviceDestroy device) name first own p = destroy_too c on q s t pair new reply device (own device (among_first device [])) p
  does_own (call.VideoCreate device chroma width height) name first own p =
      creates_on (video_create s device chroma width height) (video_create t device chroma width height) (IsNewVideo width height) (λ content is. ap (moved_content c) is.2 ∙ sym is.2) (makeable_video c on q s t pair within device chroma width height (own device (among_first device []))) p
  does_own (call.VideoParameters surface) name first own p =
      on_first as_video (λ of. of) (video_moves c) surface (own surface (among_first surface [])) (λ on. Tells s reply new (Size (surfaces.size_told on.value))) (λ u on. Tells t reply u (Size (surfaces.size_told on.value)))
      (λ found is a. tells_too c on q s t pair new reply _ _ refl a) p
  does_own (call.VideoGetBits surface format count) name first own p =
      goes_too c on q s t pair new reply (moved_found c (λ (of : VideoSurface). of)) (IsOwnFound c on) (surfaces.video_bits s surface format count) (surfaces.video_bits t surface format count)
      (λ on. (is_out s on.place ≡ false) × Tells s reply new (Bytes (bytes_of format on.value.picture))) (λ u on. (is_out t on.place ≡ false) × Tells t reply u (Bytes (bytes_of format on.value.picture)))
      (alike_video_bits c on q s t pair surface format count (own surface (among_first surface [])))
      (λ found is a. tells_held (is_out s found.place) (is_out t (place_in c found.place)) _ _ (out found.place is.place) refl a) p
  does_own (call.VideoPutBits surface format bytes) name first own p =
      goes_too c on q s t pair new reply (moved_found c (λ (of : VideoSurface). of)) (IsOwnFound c on) (surfaces.video_bits s surface format (length bytes)) (surfaces.video_bits t surface format (length bytes))
      (λ on. (is_out s on.place ≡ false) × ((picture : Picture) × SameSize on.value.picture picture × (bytes_of format picture ≡ bytes) × Leaves s reply new (surfaces.with_picture s on picture)))
      (λ u on. (is_out t on.place ≡ false) × ((picture : Picture) × SameSize on.value.picture picture × (bytes_of format picture ≡ bytes) × Leaves t reply u (surfaces.with_picture t on picture)))
      (alike_video_bits c on q s t pair surface format (length bytes) (own surface (among_first surface [])))
      (λ found is a.
      let content : Content = VideoObject (record found.value { picture = a.1.0 }) in
      let r = leaves_too c on q s t pair new reply (with_content s found.place content) (with_content t (place_in c found.place) content) (after_content c on q s t pair found.place content content refl is.place) a.1.3 in
      (r.0, (out found.place is.place ∙ a.0, (a.1.0, a.1.1, a.1.2, r.1)), r.2)) p
  does_own (call.VideoDestroy surface) name first own p =
      on_first as_video (λ of. of) (video_moves c) surface (own surface (among_first surface [])) (λ on. Leaves s reply new (destroyed s on.place)) (λ u on. Leaves t reply u (destroyed t on.place))
      (λ found is a. leaves_too c on q s t pair new reply _ _ (after_destroyed c on q s t pair found.place is.place) a) p
  does_own (call.OutputCreate device format width height) name first own p =
      creates_on (output_create s device format width height) (output_create t device format width height) (λ content. content ≡ new_output format width height) (content_is (new_output format width height) refl) (makeable_output c on q s t pair within device format width height (own device (among_first device []))) p
  does_own (call.OutputGetBits surface count) name first own p =
      goes_too c on q s t pair new reply (moved_found c (moved_output c)) (IsOwnFound c on) (surfaces.output_bits s surface count) (surfaces.output_bits t surface count)
      (λ on. (is_out s on.place ≡ false) × Tells s reply new (Bytes on.value.bytes)) (λ u on. (is_out t on.place ≡ false) × Tells t reply u (Bytes on.value.bytes))
      (alike_output_bits c on q s t pair surface count (own surface (among_first surface [])))
      (λ found is a. tells_held (is_out s found.place) (is_out t (place_in c found.place)) _ _ (out found.place is.place) refl a) p
  does_own (call.OutputPutBits surface bytes) name first own p =
      goes_too c on q s t pair new reply (moved_found c (moved_output c)) (IsOwnFound c on) (surfaces.output_bits s surface (length bytes)) (surfaces.output_bits t surface (length bytes))
      (λ on. (is_out s on.place ≡ false) × Leaves s reply new (surfaces.with_bytes s on bytes)) (λ u on. (is_out t on.place ≡ false) × Leaves t reply u (surfaces.with_bytes t on bytes))
      (alike_output_bits c on q s t pair surface (length bytes) (own surface (among_first surface [])))
      (λ found is a.
      let content : Content = OutputObject (record found.value { bytes = bytes }) in
      let r = leaves_too c on q s t pair new reply (with_content s found.place content) (with_content t (place_in c found.place) (moved_content c content)) (after_content c on q s t pair found.place content (moved_content c content) refl is.place) a.1 in
      (r.0, (out found.place is.place ∙ a.0, r.1), r.2)) p
  does_own (call.OutputDestroy surface) name first own p =
      on_first as_output (moved_output c) (output_moves c) surface (own surface (among_first surface [])) (λ on. Leaves s reply new (destroyed s on.place)) (λ u on. Leaves t reply u (destroyed t on.place))
      (λ found is a. leaves_too c on q s t pair new reply _ _ (after_destroyed c on q s t pair found.place is.place) a) p
  does_own (call.DecoderQuery device profile) name first own p =
      on_first as_device (λ of. of) (device_moves c) device (own device (among_first device [])) (λ on. Tells s reply new (Supports (surfaces.capabilities profile))) (λ u on. Tells t reply u (Supports (surfaces.capabilities profile)))
      (λ found is a. tells_too c on q s t pair new reply _ _ refl a) p
  does_own (call.DecoderCreate device profile width height max_references) name first own p =
      creates_on (decoder_create s device profile width height max_references) (decoder_create t device profile width height max_references) (λ content. content ≡ new_decoder profile width height max_references)
      (content_is (new_decoder profile width height max_references) refl) (makeable_decoder c on q s t pair within device profile width height max_references (own device (among_first device []))) p
  does_own (call.DecoderDestroy decoder) name first own p =
      on_first as_decoder (λ of. of) (decoder_moves c) decoder (own decoder (among_first decoder [])) (λ on. Leaves s reply new (destroyed s on.place)) (λ u on. Leaves t reply u (destroyed t on.place))
      (λ found is a. leaves_too c on q s t pair new reply _ _ (after_destroyed c on q s t pair found.place is.place) a) p
  does_own (call.MixerCreate device width height) name first own p =
      creates_on (mixer_create s device width height) (mixer_create t device width height) (λ content. content ≡ new_mixer width height) (content_is (new_mixer width height) refl) (makeable_mixer c on q s t pair within device width height (own device (among_first device []))) p
  does_own (call.MixerSetMatrix mixer matrix) name first own p =
      on_first as_mixer (λ of. of) (mixer_moves c) mixer (own mixer (among_first mixer [])) (λ on. Leaves s reply new (surfaces.with_matrix s on matrix)) (λ u on. Leaves t reply u (surfaces.with_matrix t on matrix))
      (λ found is a.
      let content : Content = MixerObject (record found.value { matrix = matrix }) in
      leaves_too c on q s t pair new reply (with_content s found.place content) (with_content t (place_in c found.place) content) (after_content c on q s t pair found.place content content refl is.place) a) p
  does_own (call.MixerDestroy mixer) name first own p =
      on_first as_mixer (λ of. of) (mixer_moves c) mixer (own mixer (among_first mixer [])) (λ on. Leaves s reply new (destroyed s on.place)) (λ u on. Leaves t reply u (destroyed t on.place))
      (λ found is a. leaves_too c on q s t pair new reply _ _ (after_destroyed c on q s t pair found.place is.place) a) p
  does_own (call.QueueCreate device window) name first own p =
      creates_on (queue_create s device) (queue_create t device) (λ content. content ≡ new_queue window) (content_is (new_queue window) refl) (makeable_queue c on q s t pair within device (own device (among_first device []))) p
  does_own (call.QueueDestroy queue) name first own p =
      on_first as_queue (moved_presentation c) (queue_moves c) queue (own queue (among_first queue [])) (λ on. Leaves s reply new (destroyed_with s on.place (QueueObject (queues.emptied on.value)))) (λ u on. Leaves t reply u (destroyed_with t on.place (QueueObject (queues.emptied on.value))))
      (λ found is a.
      let content : Content = QueueObject (queues.emptied found.value) in
      leaves_too c on q s t pair new reply (destroyed_with s found.place content) (destroyed_with t (place_in c found.place) (moved_content c content)) (after_destroyed_with c on q s t pair found.place content (moved_content c content) refl is.place) a) p
  does_own (call.QueueDisplay queue surface earliest) name first own p =
      goes_too c on q s t pair new reply (moved_pair c on) (AreOwn c on) (queues.queue_display s queue surface earliest) (queues.queue_display t queue surface earliest)
      (λ on. Leaves s reply new (queues.with_queue s on.queue (displayed on.queue.value.queue (record { surface = on.surface.place; earliest = earliest }))))
      (λ u on. Leaves t reply u (queues.with_queue t on.queue (displayed on.queue.value.queue (record { surface = on.surface.place; earliest = earliest }))))
      (alike_display c on q s t pair queue surface earliest (own queue (among_first queue (surface ∷ []))) (own surface (among_later queue surface (surface ∷ []) (among_first surface []))))
      (λ found is a.
      let entry : Queued ℕ = record { surface = found.surface.place; earliest = earliest } in
      let there : QueueAndSurface = moved_pair c on found in
      let other : Queued ℕ = record { surface = there.surface.place; earliest = earliest } in
      let content : Content = QueueObject (record found.queue.value { queue = displayed found.queue.value.queue entry }) in
      let also : Content = QueueObject (record there.queue.value { queue = displayed there.queue.value.queue other }) in
      let same : moved_content c content ≡ also = ap (λ l. QueueObject (record found.queue.value { queue = l })) (sym (displayed-moved c found.queue.value.queue entry)) in
      leaves_too c on q s t pair new reply (with_content s found.queue.place content) (with_content t there.queue.place also) (after_content c on q s t pair found.queue.place content also same is.0.place) a) p
  does_own (call.QueryStatus queue surface) name first own p =
      goes_too c on q s t pair new reply (moved_pair c on) (AreOwn c on) (queues.presented s queue surface) (queues.presented t queue surface)
      (λ on. Tells s reply new (Status (record { status = status_at s on.surface.place; first_time = first_time s on.queue.place on.surface.place })))
      (λ u on. Tells t reply u (Status (record { status = status_at t on.surface.place; first_time = first_time t on.queue.place on.surface.place })))
      (alike_presented c on q s t pair queue surface (own queue (among_first queue (surface ∷ []))) (own surface (among_later queue surface (surface ∷ []) (among_first surface []))))
      (λ found is a.
      let status = part-status c on q s t pair found.surface.place is.1.place in
      let time = part-first_time c on q s t pair found.queue.place found.surface.place is.1.place in
      tells_too c on q s t pair new reply _ _ (λ i. Status (record { status = status i; first_time = time i })) a) p
  does_own (call.BlockUntilIdle queue surface) name first own p =
      goes_too c on q s t pair new reply (moved_pair c on) (AreOwn c on) (queues.presented s queue surface) (queues.presented t queue surface)
      (λ on. (is_idle_at s on.surface.place ≡ true) × Tells s reply new (Time (first_time s on.queue.place on.surface.place)))
      (λ u on. (is_idle_at t on.surface.place ≡ true) × Tells t reply u (Time (first_time t on.queue.place on.surface.place)))
      (alike_presented c on q s t pair queue surface (own queue (among_first queue (surface ∷ []))) (own surface (among_later queue surface (surface ∷ []) (among_first surface []))))
      (λ found is a.
      let r = tells_too c on q s t pair new reply _ _ (ap (λ n. Time n) (part-first_time c on q s t pair found.queue.place found.surface.place is.1.place)) a.1 in
      (r.0, (part-idle c on q s t pair found.surface.place is.1.place ∙ a.0, r.1), r.2)) p
  does_own (call.GetTime queue) name first own p =
      on_first as_queue (moved_presentation c) (queue_moves c) queue (own queue (among_first queue [])) (λ on. Tells s reply new (Time (time_of s on.device))) (λ u on. Tells t reply u (Time (time_of t on.device)))
      (λ found is a. tells_too c on q s t pair new reply _ _ (ap (λ n. Time n) (part-time c s t found.device pair.objects is.device)) a) p
  does_own (call.Promise queue time) name first own p =
      on_first as_queue (moved_presentation c) (queue_moves c) queue (own queue (among_first queue [])) (λ on. Leaves s reply new (queues.with_queue s on (promised on.value.queue time))) (λ u on. Leaves t reply u (queues.with_queue t on (promised on.value.queue time)))
      (λ found is a.
      let content : Content = QueueObject (record found.value { queue = promised found.value.queue time }) in
      leaves_too c on q s t pair new reply (with_content s found.place content) (with_content t (place_in c found.place) (moved_content c content)) (after_content c on q s t pair found.place content (moved_content c content) refl is.place) a) p
  does_own (call.Advance device time) name first own p = advance_too c on q s t pair new reply device time (own device (among_first device [])) p
  does_own (call.Preempt device) name first own p = preempt_too c on q s t pair new reply device (own device (among_first device [])) p
  does_own (call.Poll wishes) name first own p =
      goes_too c on q s t pair new reply (same_value {A = Option ℕ}) Anything (first_wish s wishes) (first_wish t wishes) (λ place. Tells s reply new (Holds place)) (λ u place. Tells t reply u (Holds place))
      (alike_wish c on q s t pair wishes own) (λ place is a. tells_too c on q s t pair new reply _ _ refl a) p
  does_own (call.WaitUntil wishes) name first own p =
      goes_too c on q s t pair new reply (same_value {A = Option ℕ}) Anything (first_wish s wishes) (first_wish t wishes) (λ place. MatchOption place ⊥ (λ found. Tells s reply new (Holds (Some found)))) (λ u place. MatchOption place ⊥ (λ found. Tells t reply u (Holds (Some found))))
      (alike_wish c on q s t pair wishes own) (λ place is a. wait_too place a) p
  does_own call.Kept name first own p = absurd (nothing_named name first)
  does_own (call.Render decoder target info bytes) name first own p =
      goes_too c on q s t pair new reply (moved_rendering c on) (IsOwnRendering c on) (render s decoder target info) (render t decoder target info) (Counts s reply new caller info bytes) (λ u. Counts t reply u caller info bytes)
      (alike_render c on q s t pair decoder target info (own decoder (among_first decoder (target ∷ entries info))) (own target (among_later decoder target (target ∷ entries info) (among_first target (entries info))))
      (λ n is. own n (among_later decoder n (target ∷ entries info) (among_later target n (entries info) is))))
      (λ at is a. counts_too c on q s t pair new reply caller info bytes at is a) p
  does_own (call.Mix mixer structure video output) name first own p =
      goes_too c on q s t pair new reply (moved_mixing c on) (IsOwnMixing c on) (mix s mixer structure video output) (mix t mixer structure video output) (Mixes s reply new caller) (λ u. Mixes t reply u caller)
      (alike_mix c on q s t pair mixer structure video output (own mixer (among_first mixer (video ∷ output ∷ []))) (own video (among_later mixer video (video ∷ output ∷ []) (among_first video (output ∷ []))))
      (own output (among_later mixer output (video ∷ output ∷ []) (among_later video output (output ∷ []) (among_first output [])))))
      (λ at is a. mixes_too c on q s t pair new reply caller at is a) p
