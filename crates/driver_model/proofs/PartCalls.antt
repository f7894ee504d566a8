-- What each call does to the objects and notes as a whole.
use Rattle.std.proofs.Common.{◌≡◌, inl, inr, ℕ, ◌==◌, true, false, List, length, map, Option, Some, None, Ok, refl, ap, subst}
use Rattle.std.specs.Option.{is_some, ok_or}
use Rattle.present_queue.specs.Queue.{Queued, displayed, promised}
use Rattle.vd_status.specs.declared.refusal.Refusal.TheVariants.{InvalidHandle, OutOfMemory}
use Rattle.driver_model.specs.Answers.{Leaves, Reply}
use Rattle.driver_model.specs.Clock as clock
use Rattle.driver_model.specs.Creates.{IsNewVideo, decoder_create, device_create, live_queues, mixer_create, new_decoder, new_mixer, new_output, new_queue, output_create, queue_create, video_create}
use Rattle.driver_model.specs.Mixes.{mix}
use Rattle.driver_model.specs.Objects.{Content, Device, DeviceObject, VideoObject, OutputObject, MixerObject, QueueObject, as_decoder, as_device, as_mixer, as_output, as_queue, as_video, kind_number}
use Rattle.driver_model.specs.Queues as queues
use Rattle.driver_model.specs.Refusals.{first_handle}
use Rattle.driver_model.specs.Renders.{render}
use Rattle.driver_model.specs.Sizes.{size_of_sides}
use Rattle.driver_model.specs.Sound.{AreSound}
use Rattle.driver_model.specs.States.{State, Found, destroyed, destroyed_with, named, with_content}
use Rattle.driver_model.specs.Steps.{Does, Step}
use Rattle.driver_model.specs.Surfaces as surfaces
use Rattle.driver_model.specs.Wishes.{first_wish}
use Rattle.driver_model.specs.declared.calls.Call.{Call}
use Rattle.driver_model.specs.declared.calls.Call.TheVariants as call
use Rattle.driver_model.specs.declared.numbers.TheConstants.{MAX_QUEUES}
use Rattle.driver_model.specs.declared.replies.Answer.TheVariants.{Done, Flips}
use Rattle.driver_model.proofs.Looks.{err_not_ok, first_handle-Ok, ok_is}
use Rattle.driver_model.proofs.PartClock.{all_due_on}
use Rattle.driver_model.proofs.PartEffects.{Effect, IsOn, changes, found_content, found_destroyed_with, goes_effect, gone, is_no, made_effect, mix_effect, named_on, no_queue, queue_left, refused_effect, render_effect, root_effect, root_place, tells_effect, wish_effect}
use Rattle.driver_model.proofs.PartFirsts.{advance_named, decoder_made, device_made, display_named, mix_named, mixer_made, output_bits_named, output_made, queue_made, render_named, video_bits_named, video_made}
use Rattle.driver_model.proofs.PartLooks.{AreRooted}
use Rattle.driver_model.proofs.PartStill.{AreStill, all_shown_still, device_kind, end_still, mixer_kind, output_kind, queue_kind, video_kind}

module _ (old new : State) (caller : List ℕ) (reply : Reply) (rooted : AreRooted old.objects) (sound : AreSound old.objects) where
  abbrev Effects : Call → Type 0
  Effects call = Effect old new caller call reply

  -- ---- each call

  does_effect : (call : Call) → Does old caller call reply new → Effects call
  does_effect call.DeviceCreate p = root_effect old new caller reply rooted sound (device_create old) (device_made old) p
  does_effect (call.DeviceDestroy device) p =
      goes_effect old new caller reply rooted sound (call.DeviceDestroy device) (clock.device_destroy old device) (λ on. Leaves old reply new (record old { objects = map (clock.destroyed_on on.place) old.objects })) (λ on h a.
      let e = device_found device on h in
      let place : on.device ≡ on.place = root_place old new caller reply rooted sound device on e in
      changes old new caller reply rooted sound (call.DeviceDestroy device) on.place (record old { objects = map (clock.destroyed_on on.place) old.objects }) Done refl (subst (IsOn old (call.DeviceDestroy device)) place (named_on old new caller reply rooted sound as_device (call.DeviceDestroy device) device on refl e))
      (end_still on.place old.objects) refl refl a.0 a.1) p
    where
      device_found : (name : ℕ) (on : Found Device) → clock.device_destroy old name ≡ Ok on → named old as_device name ≡ Some on
      device_found name on h = by_option (named old as_device name) h where
        by_option : (o : Option (Found Device)) → ok_or o (InvalidHandle 0) ≡ Ok on → o ≡ Some on
        by_option None k = absurd (err_not_ok (InvalidHandle 0) on k)
        by_option (Some found) k = ap (λ (f : Found Device). Some f) (ok_is found on k)
  does_effect (call.VideoCreate device chroma width height) p =
      made_effect old new caller reply rooted sound (call.VideoCreate device chroma width height) device false (video_create old device chroma width height) (IsNewVideo width height) refl (video_made old device chroma width height)
      (λ content is. ap (λ o. is_some (as_device o)) is.2) (λ content is k. no_queue old new caller reply rooted sound (VideoObject (record { size = size_of_sides width height; picture = is.0 })) content refl is.2 k) p
  does_effect (call.VideoParameters surface) p = goes_effect old new caller reply rooted sound (call.VideoParameters surface) (surfaces.video old surface) _ (λ on h a. tells_effect old new caller reply rooted sound (call.VideoParameters surface) _ refl a) p
  does_effect (call.VideoGetBits surface format count) p = goes_effect old new caller reply rooted sound (call.VideoGetBits surface format count) (surfaces.video_bits old surface format count) _ (λ on h a. tells_effect old new caller reply rooted sound (call.VideoGetBits surface format count) _ refl a.1) p
  does_effect (call.VideoPutBits surface format bytes) p =
      goes_effect old new caller reply rooted sound (call.VideoPutBits surface format bytes) (surfaces.video_bits old surface format (length bytes)) _ (λ on h a.
      let e = video_bits_named old surface format (length bytes) on h in
      changes old new caller reply rooted sound (call.VideoPutBits surface format bytes) on.device (surfaces.with_picture old on a.1.0) Done refl (named_on old new caller reply rooted sound as_video (call.VideoPutBits surface format bytes) surface on refl e)
      (found_content old new caller reply rooted sound as_video surface on e (kind_number (VideoObject on.value)) (λ content k. video_kind content on.value k) (VideoObject (record on.value { picture = a.1.0 })) refl) refl refl a.1.3.0 a.1.3.1) p
  does_effect (call.VideoDestroy surface) p =
      goes_effect old new caller reply rooted sound (call.VideoDestroy surface) (surfaces.video old surface) (λ on. Leaves old reply new (destroyed old on.place)) (λ on h a.
      gone old new caller reply rooted sound as_video (call.VideoDestroy surface) surface on refl (first_handle-Ok old (named old as_video surface) on h) a) p
  does_effect (call.OutputCreate device format width height) p =
      made_effect old new caller reply rooted sound (call.OutputCreate device format width height) device false (output_create old device format width height) (λ content. content ≡ new_output format width height) refl (output_made old device format width height)
      (λ content e. is_no old new caller reply rooted sound (λ o. is_some (as_device o)) (new_output format width height) content refl e) (λ content e k. no_queue old new caller reply rooted sound (new_output format width height) content refl e k) p
  does_effect (call.OutputGetBits surface count) p = goes_effect old new caller reply rooted sound (call.OutputGetBits surface count) (surfaces.output_bits old surface count) _ (λ on h a. tells_effect old new caller reply rooted sound (call.OutputGetBits surface count) _ refl a.1) p
  does_effect (call.OutputPutBits surface bytes) p =
      goes_effect old new caller reply rooted sound (call.OutputPutBits surface bytes) (surfaces.output_bits old surface (length bytes)) _ (λ on h a.
      let e = output_bits_named old surface (length bytes) on h in
      changes old new caller reply rooted sound (call.OutputPutBits surface bytes) on.device (surfaces.with_bytes old on bytes) Done refl (named_on old new caller reply rooted sound as_output (call.OutputPutBits surface bytes) surface on refl e)
      (found_content old new caller reply rooted sound as_output surface on e (kind_number (OutputObject on.value)) (λ content k. output_kind content on.value k) (OutputObject (record on.value { bytes = bytes })) refl) refl refl a.1.0 a.1.1) p
  does_effect (call.OutputDestroy surface) p =
      goes_effect old new caller reply rooted sound (call.OutputDestroy surface) (surfaces.output old surface) (λ on. Leaves old reply new (destroyed old on.place)) (λ on h a.
      gone old new caller reply rooted sound as_output (call.OutputDestroy surface) surface on refl (first_handle-Ok old (named old as_output surface) on h) a) p
  does_effect (call.DecoderQuery device profile) p = goes_effect old new caller reply rooted sound (call.DecoderQuery device profile) (first_handle old (named old as_device device)) _ (λ on h a. tells_effect old new caller reply rooted sound (call.DecoderQuery device profile) _ refl a) p
  does_effect (call.DecoderCreate device profile width height max_references) p =
      made_effect old new caller reply rooted sound (call.DecoderCreate device profile width height max_references) device false (decoder_create old device profile width height max_references) (λ content. content ≡ new_decoder profile width height max_references) refl
      (decoder_made old device profile width height max_references) (λ content e. is_no old new caller reply rooted sound (λ o. is_some (as_device o)) (new_decoder profile width height max_references) content refl e)
      (λ content e k. no_queue old new caller reply rooted sound (new_decoder profile width height max_references) content refl e k) p
  does_effect (call.DecoderDestroy decoder) p =
      goes_effect old new caller reply rooted sound (call.DecoderDestroy decoder) (surfaces.decoder old decoder) (λ on. Leaves old reply new (destroyed old on.place)) (λ on h a.
      gone old new caller reply rooted sound as_decoder (call.DecoderDestroy decoder) decoder on refl (first_handle-Ok old (named old as_decoder decoder) on h) a) p
  does_effect (call.MixerCreate device width height) p =
      made_effect old new caller reply rooted sound (call.MixerCreate device width height) device false (mixer_create old device width height) (λ content. content ≡ new_mixer width height) refl (mixer_made old device width height)
      (λ content e. is_no old new caller reply rooted sound (λ o. is_some (as_device o)) (new_mixer width height) content refl e) (λ content e k. no_queue old new caller reply rooted sound (new_mixer width height) content refl e k) p
  does_effect (call.MixerSetMatrix mixer matrix) p =
      goes_effect old new caller reply rooted sound (call.MixerSetMatrix mixer matrix) (surfaces.mixer old mixer) _ (λ on h a.
      let e = first_handle-Ok old (named old as_mixer mixer) on h in
      changes old new caller reply rooted sound (call.MixerSetMatrix mixer matrix) on.device (surfaces.with_matrix old on matrix) Done refl (named_on old new caller reply rooted sound as_mixer (call.MixerSetMatrix mixer matrix) mixer on refl e)
      (found_content old new caller reply rooted sound as_mixer mixer on e (kind_number (MixerObject on.value)) (λ content k. mixer_kind content on.value k) (MixerObject (record on.value { matrix = matrix })) refl) refl refl a.0 a.1) p
  does_effect (call.MixerDestroy mixer) p =
      goes_effect old new caller reply rooted sound (call.MixerDestroy mixer) (surfaces.mixer old mixer) (λ on. Leaves old reply new (destroyed old on.place)) (λ on h a.
      gone old new caller reply rooted sound as_mixer (call.MixerDestroy mixer) mixer on refl (first_handle-Ok old (named old as_mixer mixer) on h) a) p
  does_effect (call.QueueCreate device window) p =
      made_effect old new caller reply rooted sound (call.QueueCreate device window) device (live_queues old == MAX_QUEUES) (queue_create old device) (λ content. content ≡ new_queue window) refl (queue_made old device)
      (λ content e. is_no old new caller reply rooted sound (λ o. is_some (as_device o)) (new_queue window) content refl e) (λ content e k. refl) p
  does_effect (call.QueueDestroy queue) p =
      goes_effect old new caller reply rooted sound (call.QueueDestroy queue) (queues.queue old queue) _ (λ on h a.
      let e = first_handle-Ok old (named old as_queue queue) on h in
      changes old new caller reply rooted sound (call.QueueDestroy queue) on.device (destroyed_with old on.place (QueueObject (queues.emptied on.value))) Done refl (named_on old new caller reply rooted sound as_queue (call.QueueDestroy queue) queue on refl e)
      (found_destroyed_with old new caller reply rooted sound as_queue queue on e (kind_number (QueueObject on.value)) (λ content k. queue_kind content on.value k) (QueueObject (queues.emptied on.value)) refl) refl refl a.0 a.1) p
  does_effect (call.QueueDisplay queue surface earliest) p =
      goes_effect old new caller reply rooted sound (call.QueueDisplay queue surface earliest) (queues.queue_display old queue surface earliest) _ (λ on h a.
      let entry : Queued ℕ = record { surface = on.surface.place; earliest = earliest } in
      queue_left old new caller reply rooted sound (call.QueueDisplay queue surface earliest) queue on.queue (displayed on.queue.value.queue entry) refl (display_named old queue surface earliest on h) a) p
  does_effect (call.QueryStatus queue surface) p = goes_effect old new caller reply rooted sound (call.QueryStatus queue surface) (queues.presented old queue surface) _ (λ on h a. tells_effect old new caller reply rooted sound (call.QueryStatus queue surface) _ refl a) p
  does_effect (call.BlockUntilIdle queue surface) p = goes_effect old new caller reply rooted sound (call.BlockUntilIdle queue surface) (queues.presented old queue surface) _ (λ on h a. tells_effect old new caller reply rooted sound (call.BlockUntilIdle queue surface) _ refl a.1) p
  does_effect (call.GetTime queue) p = goes_effect old new caller reply rooted sound (call.GetTime queue) (queues.queue old queue) _ (λ on h a. tells_effect old new caller reply rooted sound (call.GetTime queue) _ refl a) p
  does_effect (call.Promise queue time) p =
      goes_effect old new caller reply rooted sound (call.Promise queue time) (queues.queue old queue) _ (λ on h a. queue_left old new caller reply rooted sound (call.Promise queue time) queue on (promised on.value.queue time) refl (first_handle-Ok old (named old as_queue queue) on h) a) p
  does_effect (call.Advance device time) p =
      goes_effect old new caller reply rooted sound (call.Advance device time) (clock.advance old device time) _ (λ on h a.
      let e = advance_named old device time on h in
      let place : on.device ≡ on.place = root_place old new caller reply rooted sound device on e in
      let content : Content = DeviceObject (record on.value { time = time }) in
      let timed : AreStill on.place old.objects (with_content old on.place content).objects =
      subst (λ d. AreStill d old.objects (with_content old on.place content).objects) place (found_content old new caller reply rooted sound as_device device on e (kind_number (DeviceObject on.value)) (λ c k. device_kind c on.value k) content refl) in
      changes old new caller reply rooted sound (call.Advance device time) on.place (clock.ticked_at old on time) (Flips (map (clock.flip_of old time) (clock.all_due old on.place time))) refl
      (subst (IsOn old (call.Advance device time)) place (named_on old new caller reply rooted sound as_device (call.Advance device time) device on refl e))
      (all_shown_still on.place old.objects (with_content old on.place content).objects timed time (clock.all_due old on.place time) (all_due_on old.objects sound on.place time)) refl refl a.1 a.2) p
  does_effect (call.Preempt device) p =
      goes_effect old new caller reply rooted sound (call.Preempt device) (clock.device old device) _ (λ on h a.
      let e = first_handle-Ok old (named old as_device device) on h in
      changes old new caller reply rooted sound (call.Preempt device) on.device (with_content old on.place (DeviceObject (record on.value { is_preempted = true }))) Done refl (named_on old new caller reply rooted sound as_device (call.Preempt device) device on refl e)
      (found_content old new caller reply rooted sound as_device device on e (kind_number (DeviceObject on.value)) (λ content k. device_kind content on.value k) (DeviceObject (record on.value { is_preempted = true })) refl) refl refl a.0 a.1) p
  does_effect (call.Poll wishes) p = goes_effect old new caller reply rooted sound (call.Poll wishes) (first_wish old wishes) _ (λ on h a. tells_effect old new caller reply rooted sound (call.Poll wishes) _ refl a) p
  does_effect (call.WaitUntil wishes) p = goes_effect old new caller reply rooted sound (call.WaitUntil wishes) (first_wish old wishes) _ (λ on h a. wish_effect old new caller reply rooted sound (call.WaitUntil wishes) on a) p
  does_effect call.Kept p = tells_effect old new caller reply rooted sound call.Kept _ refl p
  does_effect (call.Render decoder target info bytes) p =
      goes_effect old new caller reply rooted sound (call.Render decoder target info bytes) (render old decoder target info) _ (λ on h a. render_effect old new caller reply rooted sound decoder target info bytes on (render_named old decoder target info on h) a) p
  does_effect (call.Mix mixer structure video output) p =
      goes_effect old new caller reply rooted sound (call.Mix mixer structure video output) (mix old mixer structure video output) _ (λ on h a. mix_effect old new caller reply rooted sound mixer structure video output on (mix_named old mixer structure video output on h) a) p

  pub step_effect : (call : Call) → Step old caller call reply new → Effect old new caller call reply
  step_effect call (inl lacks) = refused_effect old new caller reply rooted sound call OutOfMemory lacks.1
  step_effect call (inr does) = does_effect call does
