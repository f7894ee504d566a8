-- Each step leaves the queues sound.
use Rattle.std.proofs.Common.{◌≡◌, inl, inr, ℕ, true, List, [], ◌∷◌, ◌++◌, length, Option, Some, None, Ok, Err, MatchOption, refl, ap, sym, ◌∙◌, subst}
use Rattle.std.specs.Option.{is_some}
use Rattle.cb_types.specs.declared.picture_info.PictureInfo.{PictureInfo}
use Rattle.decoder_render.specs.declared.outcome.Outcome.{Outcome}
use Rattle.decoder_render.specs.declared.outcome.Outcome.TheVariants as outcome
use Rattle.present_queue.specs.Queue.{Queued, answer_to_display, displayed, promised}
use Rattle.vd_plane.specs.declared.picture.Picture.{Picture}
use Rattle.driver_model.specs.Answers.{Goes, Reply, Tells}
use Rattle.driver_model.specs.Clock as clock
use Rattle.driver_model.specs.Creates.{Creates, IsNewVideo, decoder_create, device_create, mixer_create, new_decoder, new_device, new_mixer, new_output, new_queue, output_create, queue_create, video_create}
use Rattle.driver_model.specs.Mixes.{mix}
use Rattle.driver_model.specs.Objects.{Content, DeviceObject, VideoObject, OutputObject, MixerObject, Device, VideoSurface, OutputSurface, Decoder, VideoMixer, Object, PresentationQueue, as_decoder, as_device, as_mixer, as_output, as_queue, as_video}
use Rattle.driver_model.specs.Queues as queues
use Rattle.driver_model.specs.Queues.{QueueAndSurface, presented, queue_display}
use Rattle.driver_model.specs.Refusals.{Looked, first_handle}
use Rattle.driver_model.specs.Renders.{Counts, Decodes, Rendering, decoded, render, units_counted}
use Rattle.driver_model.specs.Sound.{AreSound, IsOutputOf, IsSoundObject}
use Rattle.driver_model.specs.States.{State, Found, destroyed, named, with_content, with_object}
use Rattle.driver_model.specs.Steps.{Does}
use Rattle.driver_model.specs.Surfaces as surfaces
use Rattle.driver_model.specs.Wishes.{first_wish}
use Rattle.driver_model.specs.declared.calls.Call.{Call}
use Rattle.driver_model.specs.declared.calls.Call.TheVariants as call
use Rattle.driver_model.specs.declared.replies.Answer.TheVariants.{Holds}
use Rattle.driver_model.proofs.PlainKinds.{decoder_is_plain, device_is_plain, mixer_is_plain, output_is_no_queue, queue_is_no_output, video_is_plain}
use Rattle.driver_model.proofs.SoundRows.{sound_content, sound_destroyed, sound_emptied, sound_plain, sound_queue}
use Rattle.driver_model.proofs.SoundTicks.{displayed_is_sound, empty_is_sound, promised_is_sound, sound_all_shown, sound_end, sound_more}
use Rattle.driver_model.specs.Histories.{Happens, IsStateOf, Leads}
use Rattle.driver_model.specs.States.{empty_state}
use Rattle.driver_model.specs.Steps.{Step}
use Rattle.driver_model.specs.declared.items.Item.{Item}
use Rattle.driver_model.specs.declared.items.Item.TheVariants.{Called, Ended}
use Rattle.driver_model.proofs.SoundChanges.{nothing_there}
use Rattle.driver_model.proofs.SoundJobs.{mix_stands, render_stands}
use Rattle.driver_model.proofs.SoundLooks.{Stands, advance_stands, display_stands, first_stands, output_bits_stands, video_bits_stands}

module _ (s : State) where
  -- a surface, a mixer or a device has another content
  video_with : (on : Found VideoSurface) (of : VideoSurface) → Stands s as_video on → AreSound s.objects → AreSound (with_content s on.place (VideoObject of)).objects
  video_with on of is = sound_plain s on.place is.0 is.1 (VideoObject of) refl (video_is_plain is.0.content on.value is.4)

  output_with : (on : Found OutputSurface) (of : OutputSurface) → Stands s as_output on → AreSound s.objects → AreSound (with_content s on.place (OutputObject of)).objects
  output_with on of is = sound_content s on.place is.0 is.1 (OutputObject of) refl (λ some. refl)

  mixer_with : (on : Found VideoMixer) (of : VideoMixer) → Stands s as_mixer on → AreSound s.objects → AreSound (with_content s on.place (MixerObject of)).objects
  mixer_with on of is = sound_plain s on.place is.0 is.1 (MixerObject of) refl (mixer_is_plain is.0.content on.value is.4)

  device_with : (on : Found Device) (of : Device) → Stands s as_device on → AreSound s.objects → AreSound (with_content s on.place (DeviceObject of)).objects
  device_with on of is = sound_plain s on.place is.0 is.1 (DeviceObject of) refl (device_is_plain is.0.content on.value is.4)

  video_gone : (on : Found VideoSurface) → Stands s as_video on → AreSound s.objects → AreSound (destroyed s on.place).objects
  video_gone on is = sound_destroyed s on.place is.0 is.1 ((video_is_plain is.0.content on.value is.4).no_queue)

  output_gone : (on : Found OutputSurface) → Stands s as_output on → AreSound s.objects → AreSound (destroyed s on.place).objects
  output_gone on is = sound_destroyed s on.place is.0 is.1 (output_is_no_queue is.0.content on.value is.4)

  decoder_gone : (on : Found Decoder) → Stands s as_decoder on → AreSound s.objects → AreSound (destroyed s on.place).objects
  decoder_gone on is = sound_destroyed s on.place is.0 is.1 ((decoder_is_plain is.0.content on.value is.4).no_queue)

  mixer_gone : (on : Found VideoMixer) → Stands s as_mixer on → AreSound s.objects → AreSound (destroyed s on.place).objects
  mixer_gone on is = sound_destroyed s on.place is.0 is.1 ((mixer_is_plain is.0.content on.value is.4).no_queue)

  queue_promised : (on : Found PresentationQueue) (time : ℕ) → Stands s as_queue on → AreSound s.objects → AreSound (queues.with_queue s on (promised on.value.queue time)).objects
  queue_promised on time is =
      sound_queue s on.place is.0 is.1 on.value (promised on.value.queue time) is.2 is.4 (promised_is_sound s.objects is.0.device on.value.queue time) (queue_is_no_output is.0.content on.value is.4)

  queue_displayed : (on : QueueAndSurface) (entry : Queued ℕ) → Stands s as_queue on.queue → IsOutputOf s.objects on.queue.device entry.surface → answer_to_display on.queue.value.queue entry.earliest ≡ Ok tt
      → AreSound s.objects → AreSound (queues.with_queue s on.queue (displayed on.queue.value.queue entry)).objects
  queue_displayed on entry is output answer =
      sound_queue s on.queue.place is.0 is.1 on.queue.value (displayed on.queue.value.queue entry) is.2 is.4
      (displayed_is_sound s.objects is.0.device on.queue.value.queue entry answer (subst (λ d. IsOutputOf s.objects d entry.surface) is.3 output)) (queue_is_no_output is.0.content on.queue.value is.4)

module _ (old new : State) (caller : List ℕ) (reply : Reply) where
  left : (after : State) → new ≡ after → AreSound after.objects → AreSound new.objects
  left after e sound = subst (λ (t : State). AreSound t.objects) (sym e) sound

  goes_sound : {A : Type 0} (looked : Looked A) (D : A → Type 0) → ((on : A) → looked ≡ Ok on → D on → AreSound new.objects) → AreSound old.objects → Goes old reply new looked D → AreSound new.objects
  goes_sound (Ok on) D row sound goes = row on refl goes
  goes_sound (Err r) D row sound goes = left old goes.1 sound

  creates_sound : (looked : Looked ℕ) (IsContent : Content → Type 0)
      → ((objects : List Object) (name device : ℕ) (content : Content) → IsContent content → IsSoundObject objects (record { name = name; device = device; is_live = true; content = content }))
      → AreSound old.objects → Creates old reply new looked IsContent → AreSound new.objects
  creates_sound (Err r) IsContent is sound p = left old p.1 sound
  creates_sound (Ok device) IsContent is sound (inr p) = left old p.1.1 sound
  creates_sound (Ok device) IsContent is sound (inl p) =
      let one : Object = record { name = p.name; device = device; is_live = true; content = p.content } in
      left (with_object old one) p.after (sound_more old one (is (old.objects ++ one ∷ []) p.name device p.content p.is_content) sound)

  equal_sound : (is : Content) → ((objects : List Object) (name device : ℕ) → IsSoundObject objects (record { name = name; device = device; is_live = true; content = is }))
      → (objects : List Object) (name device : ℕ) (content : Content) → content ≡ is → IsSoundObject objects (record { name = name; device = device; is_live = true; content = content })
  equal_sound is sound objects name device content e =
      subst (λ (c : Content). IsSoundObject objects (record { name = name; device = device; is_live = true; content = c })) (sym e) (sound objects name device)

  decoded_sound : (on : Rendering) (picture : Picture) (o : Outcome) → Stands old as_video on.target → AreSound old.objects → AreSound (decoded old on.target picture o).objects
  decoded_sound on picture outcome.Ok is sound = video_with old on.target _ is sound
  decoded_sound on picture (outcome.Bitstream slice) is sound = sound
  decoded_sound on picture (outcome.Incomplete macroblocks) is sound = sound

  counts_sound : (info : PictureInfo) (bytes : List ℕ) (on : Rendering) → Stands old as_video on.target → AreSound old.objects → Counts old reply new caller info bytes on → AreSound new.objects
  counts_sound info bytes on is sound p =
      goes_sound (units_counted info (length p.payloads)) (λ nothing. Decodes old reply new caller info p.payloads on) (λ nothing h a. left _ a.after (decoded_sound on a.picture a.outcome is sound)) sound p.goes

  wish_sound : (place : Option ℕ) → AreSound old.objects → MatchOption place ⊥ (λ found. Tells old reply new (Holds (Some found))) → AreSound new.objects
  wish_sound None sound p = absurd p
  wish_sound (Some found) sound p = left old p.1 sound

  tick_sound : (on : Found Device) (time : ℕ) → Stands old as_device on → AreSound old.objects → AreSound (clock.ticked_at old on time).objects
  tick_sound on time is sound = sound_all_shown time (clock.all_due old on.place time) _ (device_with old on (record on.value { time = time }) is sound)

  output_of : (on : Found OutputSurface) (device : ℕ) → Stands old as_output on → on.device ≡ device → IsOutputOf old.objects device on.place
  output_of on device is e = record { object = is.0; stands = is.1; of_device = sym is.3 ∙ e; is_output = ap is_some is.4 }

  pub does_sound : (call : Call) → AreSound old.objects → Does old caller call reply new → AreSound new.objects
  does_sound call.DeviceCreate sound p = creates_sound (device_create old) (λ content. content ≡ new_device) (equal_sound new_device (λ objects name device. tt)) sound p
  does_sound (call.DeviceDestroy device) sound p = goes_sound (clock.device_destroy old device) _ (λ on h a. left _ a.1 (sound_end on.place old.objects sound)) sound p
  does_sound (call.VideoCreate device chroma width height) sound p = creates_sound (video_create old device chroma width height) (IsNewVideo width height) (λ objects name on content e. equal_sound _ (λ all n d. tt) objects name on content e.2) sound p
  does_sound (call.VideoParameters surface) sound p = goes_sound (surfaces.video old surface) _ (λ on h a. left old a.1 sound) sound p
  does_sound (call.VideoGetBits surface format count) sound p = goes_sound (surfaces.video_bits old surface format count) _ (λ on h a. left old a.1.1 sound) sound p
  does_sound (call.VideoPutBits surface format bytes) sound p =
      goes_sound (surfaces.video_bits old surface format (length bytes)) _ (λ on h a. left (surfaces.with_picture old on a.1.0) a.1.3.1 (video_with old on _ (video_bits_stands old surface format (length bytes) on h) sound)) sound p
  does_sound (call.VideoDestroy surface) sound p = goes_sound (surfaces.video old surface) _ (λ on h a. left _ a.1 (video_gone old on (first_stands old as_video surface on h) sound)) sound p
  does_sound (call.OutputCreate device format width height) sound p = creates_sound (output_create old device format width height) (λ content. content ≡ new_output format width height) (equal_sound (new_output format width height) (λ objects name on. tt)) sound p
  does_sound (call.OutputGetBits surface count) sound p = goes_sound (surfaces.output_bits old surface count) _ (λ on h a. left old a.1.1 sound) sound p
  does_sound (call.OutputPutBits surface bytes) sound p =
      goes_sound (surfaces.output_bits old surface (length bytes)) _ (λ on h a. left (surfaces.with_bytes old on bytes) a.1.1 (output_with old on _ (output_bits_stands old surface (length bytes) on h) sound)) sound p
  does_sound (call.OutputDestroy surface) sound p = goes_sound (surfaces.output old surface) _ (λ on h a. left _ a.1 (output_gone old on (first_stands old as_output surface on h) sound)) sound p
  does_sound (call.DecoderQuery device profile) sound p = goes_sound (first_handle old (named old as_device device)) _ (λ on h a. left old a.1 sound) sound p
  does_sound (call.DecoderCreate device profile width height max_references) sound p =
      creates_sound (decoder_create old device profile width height max_references) (λ content. content ≡ new_decoder profile width height max_references) (equal_sound (new_decoder profile width height max_references) (λ objects name on. tt)) sound p
  does_sound (call.DecoderDestroy decoder) sound p = goes_sound (surfaces.decoder old decoder) _ (λ on h a. left _ a.1 (decoder_gone old on (first_stands old as_decoder decoder on h) sound)) sound p
  does_sound (call.MixerCreate device width height) sound p = creates_sound (mixer_create old device width height) (λ content. content ≡ new_mixer width height) (equal_sound (new_mixer width height) (λ objects name on. tt)) sound p
  does_sound (call.MixerSetMatrix mixer matrix) sound p = goes_sound (surfaces.mixer old mixer) _ (λ on h a. left (surfaces.with_matrix old on matrix) a.1 (mixer_with old on _ (first_stands old as_mixer mixer on h) sound)) sound p
  does_sound (call.MixerDestroy mixer) sound p = goes_sound (surfaces.mixer old mixer) _ (λ on h a. left _ a.1 (mixer_gone old on (first_stands old as_mixer mixer on h) sound)) sound p
  does_sound (call.QueueCreate device window) sound p = creates_sound (queue_create old device) (λ content. content ≡ new_queue window) (equal_sound (new_queue window) (λ objects name on. empty_is_sound objects on true)) sound p
  does_sound (call.QueueDestroy queue) sound p =
      goes_sound (queues.queue old queue) _ (λ on h a.
      let is = first_stands old as_queue queue on h in
      left _ a.1 (sound_emptied old on.place is.0 is.1 on.value (queue_is_no_output is.0.content on.value is.4) sound)) sound p
  does_sound (call.QueueDisplay queue surface earliest) sound p =
      goes_sound (queue_display old queue surface earliest) _ (λ on h a.
      let is = display_stands old queue surface earliest on h in
      let entry : Queued ℕ = record { surface = on.surface.place; earliest = earliest } in
      left (queues.with_queue old on.queue (displayed on.queue.value.queue entry)) a.1 (queue_displayed old on entry is.0.0 (output_of on.surface on.queue.device is.0.1 is.0.2) is.1 sound)) sound p
  does_sound (call.QueryStatus queue surface) sound p = goes_sound (presented old queue surface) _ (λ on h a. left old a.1 sound) sound p
  does_sound (call.BlockUntilIdle queue surface) sound p = goes_sound (presented old queue surface) _ (λ on h a. left old a.1.1 sound) sound p
  does_sound (call.GetTime queue) sound p = goes_sound (queues.queue old queue) _ (λ on h a. left old a.1 sound) sound p
  does_sound (call.Promise queue time) sound p = goes_sound (queues.queue old queue) _ (λ on h a. left _ a.1 (queue_promised old on time (first_stands old as_queue queue on h) sound)) sound p
  does_sound (call.Advance device time) sound p = goes_sound (clock.advance old device time) _ (λ on h a. left _ a.2 (tick_sound on time (advance_stands old device time on h) sound)) sound p
  does_sound (call.Preempt device) sound p = goes_sound (clock.device old device) _ (λ on h a. left _ a.1 (device_with old on _ (first_stands old as_device device on h) sound)) sound p
  does_sound (call.Poll wishes) sound p = goes_sound (first_wish old wishes) _ (λ on h a. left old a.1 sound) sound p
  does_sound (call.WaitUntil wishes) sound p = goes_sound (first_wish old wishes) _ (λ on h a. wish_sound on sound a) sound p
  does_sound call.Kept sound p = left old p.1 sound
  does_sound (call.Render decoder target info bytes) sound p =
      goes_sound (render old decoder target info) (Counts old reply new caller info bytes) (λ on h a. counts_sound info bytes on (render_stands old decoder target info on h) sound a) sound p
  does_sound (call.Mix mixer structure video output) sound p =
      goes_sound (mix old mixer structure video output) _ (λ on h a. left _ a.leaves.1 (output_with old on.output (record on.output.value { bytes = a.bytes }) (mix_stands old mixer structure video output on h) sound)) sound p

-- ---- a history

pub step_sound : (old new : State) (caller : List ℕ) (call : Call) (reply : Reply) → AreSound old.objects → Step old caller call reply new → AreSound new.objects
step_sound old new caller call reply sound (inl lacks) = subst (λ (t : State). AreSound t.objects) (sym lacks.1.1) sound
step_sound old new caller call reply sound (inr does) = does_sound old new caller reply call sound does

happens_sound : (s t : State) (item : Item) → AreSound s.objects → Happens s item t → AreSound t.objects
happens_sound s t (Called entry) sound h = subst (λ (u : State). AreSound u.objects) (sym h.2) (step_sound s h.0 entry.caller entry.call entry.reply sound h.1)
happens_sound s t (Ended mark) sound h = subst (λ (u : State). AreSound u.objects) (sym h.1) sound

leads_sound : (s t : State) (history : List Item) → AreSound s.objects → Leads s history t → AreSound t.objects
unfolding Leads
leads_sound s t [] sound leads = subst (λ (u : State). AreSound u.objects) (sym leads) sound
leads_sound s t (item ∷ later) sound leads = leads_sound leads.0 t later (happens_sound s leads.0 item sound leads.1) leads.2

pub states_are_sound : (history : List Item) (s : State) → IsStateOf history s → AreSound s.objects
states_are_sound history s leads = leads_sound empty_state s history (λ place object e. nothing_there object e) leads
