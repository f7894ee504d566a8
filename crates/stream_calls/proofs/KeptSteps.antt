-- A step keeps a mixer, an output surface or a queue that it doesn't destroy.
use Rattle.std.proofs.Common.{◌≡◌, ◌≢◌, inl, inr, ℕ, zero, suc, ◌==◌, Bool, true, false, if◌then◌else◌, List, [], ◌∷◌, length, map, slice_get, Option, Some, None, Ok, Err, MatchOption, refl, ap, sym, ◌∙◌, subst}
use Rattle.std.proofs.lemmas.Bool.{cases_eq, false≢true, ne_eqb}
use Rattle.std.specs.Option.{ok_or}
use Rattle.cb_types.specs.declared.picture_info.PictureInfo.{PictureInfo}
use Rattle.decoder_render.specs.declared.outcome.Outcome.{Outcome}
use Rattle.decoder_render.specs.declared.outcome.Outcome.TheVariants as outcome
use Rattle.present_queue.specs.Queue.{Queue, Queued, displayed, empty_queue, promised}
use Rattle.vd_plane.specs.declared.picture.Picture.{Picture}
use Rattle.vd_status.specs.declared.refusal.Refusal.TheVariants.{InvalidHandle}
use Rattle.driver_model.specs.Answers.{Goes, Reply, Tells}
use Rattle.driver_model.specs.Clock as clock
use Rattle.driver_model.specs.Clock.{Due, all_shown, destroyed_on, let_go, shown, with_flip, with_tick}
use Rattle.driver_model.specs.Creates.{Creates, decoder_create, device_create, mixer_create, output_create, queue_create, video_create}
use Rattle.driver_model.specs.Mixes.{Mixes, mix}
use Rattle.driver_model.specs.Objects.{Content, Device, DeviceObject, VideoObject, OutputObject, DecoderObject, MixerObject, QueueObject, Object, OutputSurface, PresentationQueue, VideoMixer, VideoSurface, as_decoder, as_device, as_mixer, as_output, as_queue, as_video}
use Rattle.driver_model.specs.Queues as queues
use Rattle.driver_model.specs.Refusals.{Looked, first_handle}
use Rattle.driver_model.specs.Renders.{Counts, Decodes, Rendering, decoded, render, units_counted}
use Rattle.driver_model.specs.States.{State, Found, changed_at, named, with_content}
use Rattle.driver_model.specs.Steps.{Does, Step}
use Rattle.driver_model.specs.Surfaces as surfaces
use Rattle.driver_model.specs.Wishes.{first_wish}
use Rattle.driver_model.specs.declared.calls.Call.{Call}
use Rattle.driver_model.specs.declared.calls.Call.TheVariants as call
use Rattle.driver_model.specs.declared.replies.Answer.TheVariants.{Holds}
use Rattle.driver_model.proofs.Looks.{err_not_ok, first_handle-Ok, ok_is}
use Rattle.driver_model.proofs.Named.{named-Some}
use Rattle.driver_model.proofs.NoteLists.{get_in, nothing_at, some_is}
use Rattle.driver_model.proofs.PartFirsts.{advance_named, display_named, mix_named, output_bits_named, render_named, video_bits_named}
use Rattle.driver_model.proofs.OwedPlaces.{changed_here}
use Rattle.player_laws.proofs.QueueSteps.{changed_other}

-- ---- what of an object a step may change beside these

-- a mixer, an output surface or a queue
abbrev pub is_kept : Content → Bool
is_kept (DeviceObject of) = false
is_kept (VideoObject of) = false
is_kept (OutputObject of) = true
is_kept (DecoderObject of) = false
is_kept (MixerObject of) = true
is_kept (QueueObject of) = true

-- what is kept of it, with zeros for the rest
abbrev pub still : Content → Content
still (OutputObject of) = OutputObject (record of { bytes = []; last_flip = None })
still (MixerObject of) = MixerObject of
still (QueueObject of) = QueueObject (record of { queue = empty_queue })
still _ = DeviceObject (record { time = 0; is_preempted = false })

kind_still : (content : Content) → is_kept (still content) ≡ is_kept content
kind_still (DeviceObject of) = refl
kind_still (VideoObject of) = refl
kind_still (OutputObject of) = refl
kind_still (DecoderObject of) = refl
kind_still (MixerObject of) = refl
kind_still (QueueObject of) = refl

-- The object is the same, but for what isn't kept.
pub record IsStill (one now : Object) : Type 0 where
  pub name : now.name ≡ one.name
  pub device : now.device ≡ one.device
  pub is_live : now.is_live ≡ one.is_live
  pub content : still now.content ≡ still one.content

no_video : (content : Content) (of : _) → as_video content ≡ Some of → is_kept content ≡ false
no_video (VideoObject is) of e = refl
no_video (DeviceObject is) of e = refl
no_video (DecoderObject is) of e = refl
no_video (OutputObject is) of e = nothing_at of e
no_video (MixerObject is) of e = nothing_at of e
no_video (QueueObject is) of e = nothing_at of e

no_decoder : (content : Content) (of : _) → as_decoder content ≡ Some of → is_kept content ≡ false
no_decoder (VideoObject is) of e = refl
no_decoder (DeviceObject is) of e = refl
no_decoder (DecoderObject is) of e = refl
no_decoder (OutputObject is) of e = nothing_at of e
no_decoder (MixerObject is) of e = nothing_at of e
no_decoder (QueueObject is) of e = nothing_at of e

no_device : (content : Content) (of : _) → as_device content ≡ Some of → is_kept content ≡ false
no_device (VideoObject is) of e = refl
no_device (DeviceObject is) of e = refl
no_device (DecoderObject is) of e = refl
no_device (OutputObject is) of e = nothing_at of e
no_device (MixerObject is) of e = nothing_at of e
no_device (QueueObject is) of e = nothing_at of e

output_still : (content : Content) (of : OutputSurface) (bytes : List ℕ) → as_output content ≡ Some of
    → still (OutputObject (record of { bytes = bytes })) ≡ still content
output_still (OutputObject is) of bytes e = ap (λ (x : OutputSurface). OutputObject (record x { bytes = []; last_flip = None })) (sym (some_is is of e))
output_still (DeviceObject is) of bytes e = nothing_at of e
output_still (VideoObject is) of bytes e = nothing_at of e
output_still (DecoderObject is) of bytes e = nothing_at of e
output_still (MixerObject is) of bytes e = nothing_at of e
output_still (QueueObject is) of bytes e = nothing_at of e

queue_still : (content : Content) (of : PresentationQueue) (queue : Queue ℕ) → as_queue content ≡ Some of
    → still (QueueObject (record of { queue = queue })) ≡ still content
queue_still (QueueObject is) of queue e = ap (λ (x : PresentationQueue). QueueObject (record x { queue = empty_queue })) (sym (some_is is of e))
queue_still (DeviceObject is) of queue e = nothing_at of e
queue_still (VideoObject is) of queue e = nothing_at of e
queue_still (DecoderObject is) of queue e = nothing_at of e
queue_still (MixerObject is) of queue e = nothing_at of e
queue_still (OutputObject is) of queue e = nothing_at of e

tick_still : (time : ℕ) (content : Content) → still (with_tick time content) ≡ still content
tick_still time (DeviceObject of) = refl
tick_still time (VideoObject of) = refl
tick_still time (OutputObject of) = refl
tick_still time (DecoderObject of) = refl
tick_still time (MixerObject of) = refl
tick_still time (QueueObject of) = refl

flip_still : (queue time : ℕ) (content : Content) → still (with_flip queue time content) ≡ still content
flip_still queue time (DeviceObject of) = refl
flip_still queue time (VideoObject of) = refl
flip_still queue time (OutputObject of) = refl
flip_still queue time (DecoderObject of) = refl
flip_still queue time (MixerObject of) = refl
flip_still queue time (QueueObject of) = refl

still_same : (one : Object) → IsStill one one
still_same one = record { name = refl; device = refl; is_live = refl; content = refl }

-- ---- one place in a list of objects

module _ (place : ℕ) where
  -- what is kept of the object at the place stays
  abbrev pub Stays : List Object → List Object → Type 0
  Stays old new = (one : Object) → slice_get old place ≡ Some one → is_kept one.content ≡ true → (now : Object) × (slice_get new place ≡ Some now) × IsStill one now

  stays_same : (objects : List Object) → Stays objects objects
  stays_same objects one at is = (one, at, still_same one)

  stays_then : (a b c : List Object) → Stays a b → Stays b c → Stays a c
  stays_then a b c first second one at is =
      let f = first one at is in
      let kept : is_kept f.0.content ≡ true = sym (kind_still f.0.content) ∙ (ap is_kept f.2.content ∙ (kind_still one.content ∙ is)) in
      let s = second f.0 f.1 kept in
      (s.0, s.1, record { name = s.2.name ∙ f.2.name; device = s.2.device ∙ f.2.device; is_live = s.2.is_live ∙ f.2.is_live; content = s.2.content ∙ f.2.content })

  stays_changed : (change : Object → Object) (other : ℕ) (objects : List Object)
      → ((one : Object) → other ≡ place → slice_get objects place ≡ Some one → is_kept one.content ≡ true → IsStill one (change one))
      → Stays objects (changed_at other change objects)
  stays_changed change other objects same one at is = elim (cases_eq other place) [
    | inl e ↦ (change one, changed_here change other place objects one e at, same one e at is)
    | inr apart ↦ (one, changed_other change other place objects apart ∙ at, still_same one)
  ]

  stays_map : (change : Object → Object) (objects : List Object)
      → ((one : Object) → slice_get objects place ≡ Some one → is_kept one.content ≡ true → IsStill one (change one)) → Stays objects (map change objects)
  stays_map change objects same one at is = (change one, mapped objects place at, same one at is) where
    mapped : (objects : List Object) (place : ℕ) → slice_get objects place ≡ Some one → slice_get (map change objects) place ≡ Some (change one)
    mapped [] place at = nothing_at one at
    mapped (first ∷ later) zero at = ap (λ o. Some (change o)) (some_is first one at)
    mapped (first ∷ later) (suc place) at = mapped later place at

  stays_shown : (time : ℕ) (due : Due) (objects : List Object) → Stays objects (shown time due objects)
  stays_shown time due objects =
      let tick : Object → Object = λ object. record object { content = with_tick time object.content } in
      let flip : Object → Object = λ object. record object { content = with_flip due.queue time object.content } in
      stays_then objects (changed_at due.queue tick objects) (shown time due objects)
      (stays_changed tick due.queue objects (λ one e at is. record { name = refl; device = refl; is_live = refl; content = tick_still time one.content }))
      (stays_changed flip due.surface (changed_at due.queue tick objects) (λ one e at is. record { name = refl; device = refl; is_live = refl; content = flip_still due.queue time one.content }))

  stays_all_shown : (time : ℕ) (dues : List Due) (objects : List Object) → Stays objects (all_shown time dues objects)
  unfolding all_shown
  stays_all_shown time [] objects = stays_same objects
  stays_all_shown time (due ∷ later) objects =
      stays_then objects (shown time due objects) (all_shown time later (shown time due objects)) (stays_shown time due objects) (stays_all_shown time later (shown time due objects))

-- ---- one step

-- The call doesn't touch what is kept at this place.
abbrev pub LeavesPlace : State → ℕ → Call → Type 0
LeavesPlace s place (call.DeviceDestroy name) = (on : Found Device) → named s as_device name ≡ Some on → (one : Object) → slice_get s.objects place ≡ Some one → one.device ≢ on.place
LeavesPlace s place (call.OutputDestroy name) = (on : Found OutputSurface) → named s as_output name ≡ Some on → on.place ≢ place
LeavesPlace s place (call.MixerDestroy name) = (on : Found VideoMixer) → named s as_mixer name ≡ Some on → on.place ≢ place
LeavesPlace s place (call.MixerSetMatrix name matrix) = (on : Found VideoMixer) → named s as_mixer name ≡ Some on → on.place ≢ place
LeavesPlace s place (call.QueueDestroy name) = (on : Found PresentationQueue) → named s as_queue name ≡ Some on → on.place ≢ place
LeavesPlace s place _ = Unit {0}

module _ (place : ℕ) (old new : State) (caller : List ℕ) (reply : Reply) where
  left : (after : State) → Stays place old.objects after.objects → new ≡ after → Stays place old.objects new.objects
  left after stays e = subst (λ (t : State). Stays place old.objects t.objects) (sym e) stays

  same : new ≡ old → Stays place old.objects new.objects
  same e = left old (stays_same place old.objects) e

  goes : {A : Type 0} (looked : Looked A) (D : A → Type 0) → ((on : A) → looked ≡ Ok on → D on → Stays place old.objects new.objects)
      → Goes old reply new looked D → Stays place old.objects new.objects
  goes (Ok on) D row p = row on refl p
  goes (Err r) D row p = same p.1

  makes : (looked : Looked ℕ) (IsContent : Content → Type 0) → Creates old reply new looked IsContent → Stays place old.objects new.objects
  makes (Err r) IsContent p = same p.1
  makes (Ok device) IsContent (inr p) = same p.1.1
  makes (Ok device) IsContent (inl p) =
      let made : Object = record { name = p.name; device = device; is_live = true; content = p.content } in
      left _ (λ one at is. (one, get_in old.objects (made ∷ []) place one at, still_same one)) p.after

  -- another place is changed
  apart : (change : Object → Object) (other : ℕ) → other ≢ place → Stays place old.objects (changed_at other change old.objects)
  apart change other differs = stays_changed place change other old.objects (λ one e at is. absurd (differs e))

  -- what isn't kept is changed
  plain : {T : Type 0} (as_kind : Content → Option T) (not_kept : (content : Content) (of : T) → as_kind content ≡ Some of → is_kept content ≡ false) (name : ℕ) (on : Found T) → named old as_kind name ≡ Some on
      → (change : Object → Object) → Stays place old.objects (changed_at on.place change old.objects)
  plain as_kind not_kept name on found change =
      let stands = named-Some as_kind name old on found in
      stays_changed place change on.place old.objects (λ one e at is.
      let one_is : stands.0 ≡ one = some_is stands.0 one (sym stands.1 ∙ (ap (slice_get old.objects) e ∙ at)) in
      absurd (false≢true (sym (not_kept stands.0.content on.value stands.2.is_kind) ∙ (ap (λ (o : Object). is_kept o.content) one_is ∙ is))))

  -- what is named gets other content, of which the same is kept
  alike : {T : Type 0} (as_kind : Content → Option T) (name : ℕ) (on : Found T) → named old as_kind name ≡ Some on → (content : Content)
      → ((was : Content) → as_kind was ≡ Some on.value → still content ≡ still was)
      → Stays place old.objects (changed_at on.place (λ object. record object { content = content }) old.objects)
  alike as_kind name on found content same =
      let stands = named-Some as_kind name old on found in
      stays_changed place (λ object. record object { content = content }) on.place old.objects (λ one e at is.
      let one_is : stands.0 ≡ one = some_is stands.0 one (sym stands.1 ∙ (ap (slice_get old.objects) e ∙ at)) in
      record { name = refl; device = refl; is_live = refl; content = same one.content (ap (λ (o : Object). as_kind o.content) (sym one_is) ∙ stands.2.is_kind) })

  ended : (on : ℕ) → ((one : Object) → slice_get old.objects place ≡ Some one → one.device ≢ on) → Stays place old.objects (map (destroyed_on on) old.objects)
  ended on leaves =
      stays_map place (destroyed_on on) old.objects (λ one at is.
      by_test one (one.device == on) (ne_eqb one.device on (leaves one at)))
    where
      by_test : (one : Object) (b : Bool) → b ≡ false → IsStill one (if b then record one { is_live = false; content = let_go one.content } else one)
      by_test one true e = absurd (false≢true (sym e))
      by_test one false e = still_same one

  wish : (found : Option ℕ) → MatchOption found ⊥ (λ n. Tells old reply new (Holds (Some n))) → Stays place old.objects new.objects
  wish None p = absurd p
  wish (Some n) p = same p.1

  decodes : (handle : ℕ) (target : Found VideoSurface) → named old as_video handle ≡ Some target → (picture : Picture) (o : Outcome)
      → Stays place old.objects (decoded old target picture o).objects
  decodes handle target found picture outcome.Ok = plain as_video no_video handle target found _
  decodes handle target found picture (outcome.Bitstream slice) = stays_same place old.objects
  decodes handle target found picture (outcome.Incomplete macroblocks) = stays_same place old.objects

  counts : (handle : ℕ) (info : PictureInfo) (bytes : List ℕ) (on : Rendering) → named old as_video handle ≡ Some on.target
      → Counts old reply new caller info bytes on → Stays place old.objects new.objects
  counts handle info bytes on found p =
      goes (units_counted info (length p.payloads)) (λ nothing. Decodes old reply new caller info p.payloads on) (λ nothing h a. left _ (decodes handle on.target found a.picture a.outcome) a.after) p.goes

  destroy_named : (name : ℕ) (on : Found Device) → clock.device_destroy old name ≡ Ok on → named old as_device name ≡ Some on
  destroy_named name on h = by_option (named old as_device name) h where
    by_option : (o : Option (Found Device)) → ok_or o (InvalidHandle 0) ≡ Ok on → o ≡ Some on
    by_option None k = absurd (err_not_ok (InvalidHandle 0) on k)
    by_option (Some found) k = ap Some (ok_is found on k)

  does : (asked : Call) → LeavesPlace old place asked → Does old caller asked reply new → Stays place old.objects new.objects
  does call.DeviceCreate leaves p = makes (device_create old) _ p
  does (call.DeviceDestroy device) leaves p = goes (clock.device_destroy old device) _ (λ on h a. left _ (ended on.place (leaves on (destroy_named device on h))) a.1) p
  does (call.VideoCreate device chroma width height) leaves p = makes (video_create old device chroma width height) _ p
  does (call.VideoParameters surface) leaves p = goes (surfaces.video old surface) _ (λ on h a. same a.1) p
  does (call.VideoGetBits surface format count) leaves p = goes (surfaces.video_bits old surface format count) _ (λ on h a. same a.1.1) p
  does (call.VideoPutBits surface format bytes) leaves p =
      goes (surfaces.video_bits old surface format (length bytes)) _ (λ on h a.
      left (surfaces.with_picture old on a.1.0) (plain as_video no_video surface on (video_bits_named old surface format (length bytes) on h) _) a.1.3.1) p
  does (call.VideoDestroy surface) leaves p = goes (surfaces.video old surface) _ (λ on h a. left _ (plain as_video no_video surface on (first_handle-Ok old (named old as_video surface) on h) _) a.1) p
  does (call.OutputCreate device format width height) leaves p = makes (output_create old device format width height) _ p
  does (call.OutputGetBits surface count) leaves p = goes (surfaces.output_bits old surface count) _ (λ on h a. same a.1.1) p
  does (call.OutputPutBits surface bytes) leaves p =
      goes (surfaces.output_bits old surface (length bytes)) _ (λ on h a.
      left (surfaces.with_bytes old on bytes) (alike as_output surface on (output_bits_named old surface (length bytes) on h) (OutputObject (record on.value { bytes = bytes })) (λ was e. output_still was on.value bytes e)) a.1.1) p
  does (call.OutputDestroy surface) leaves p = goes (surfaces.output old surface) _ (λ on h a. left _ (apart _ on.place (leaves on (first_handle-Ok old (named old as_output surface) on h))) a.1) p
  does (call.DecoderQuery device profile) leaves p = goes (first_handle old (named old as_device device)) _ (λ on h a. same a.1) p
  does (call.DecoderCreate device profile width height max_references) leaves p = makes (decoder_create old device profile width height max_references) _ p
  does (call.DecoderDestroy decoder) leaves p = goes (surfaces.decoder old decoder) _ (λ on h a. left _ (plain as_decoder no_decoder decoder on (first_handle-Ok old (named old as_decoder decoder) on h) _) a.1) p
  does (call.MixerCreate device width height) leaves p = makes (mixer_create old device width height) _ p
  does (call.MixerSetMatrix mixer matrix) leaves p = goes (surfaces.mixer old mixer) _ (λ on h a. left (surfaces.with_matrix old on matrix) (apart _ on.place (leaves on (first_handle-Ok old (named old as_mixer mixer) on h))) a.1) p
  does (call.MixerDestroy mixer) leaves p = goes (surfaces.mixer old mixer) _ (λ on h a. left _ (apart _ on.place (leaves on (first_handle-Ok old (named old as_mixer mixer) on h))) a.1) p
  does (call.QueueCreate device window) leaves p = makes (queue_create old device) _ p
  does (call.QueueDestroy queue) leaves p = goes (queues.queue old queue) _ (λ on h a. left _ (apart _ on.place (leaves on (first_handle-Ok old (named old as_queue queue) on h))) a.1) p
  does (call.QueueDisplay queue surface earliest) leaves p =
      goes (queues.queue_display old queue surface earliest) _ (λ on h a.
      let entry : Queued ℕ = record { surface = on.surface.place; earliest = earliest } in
      let now : Queue ℕ = displayed on.queue.value.queue entry in
      left (queues.with_queue old on.queue now) (alike as_queue queue on.queue (display_named old queue surface earliest on h) (QueueObject (record on.queue.value { queue = now })) (λ was e. queue_still was on.queue.value now e)) a.1) p
  does (call.QueryStatus queue surface) leaves p = goes (queues.presented old queue surface) _ (λ on h a. same a.1) p
  does (call.BlockUntilIdle queue surface) leaves p = goes (queues.presented old queue surface) _ (λ on h a. same a.1.1) p
  does (call.GetTime queue) leaves p = goes (queues.queue old queue) _ (λ on h a. same a.1) p
  does (call.Promise queue time) leaves p =
      goes (queues.queue old queue) _ (λ on h a.
      let now : Queue ℕ = promised on.value.queue time in
      left (queues.with_queue old on now) (alike as_queue queue on (first_handle-Ok old (named old as_queue queue) on h) (QueueObject (record on.value { queue = now })) (λ was e. queue_still was on.value now e)) a.1) p
  does (call.Advance device time) leaves p =
      goes (clock.advance old device time) _ (λ on h a.
      let clocked : State = with_content old on.place (DeviceObject (record on.value { time = time })) in
      left (clock.ticked_at old on time)
      (stays_then place old.objects clocked.objects (clock.ticked_at old on time).objects (plain as_device no_device device on (advance_named old device time on h) _) (stays_all_shown place time (clock.all_due old on.place time) clocked.objects)) a.2) p
  does (call.Preempt device) leaves p = goes (clock.device old device) _ (λ on h a. left _ (plain as_device no_device device on (first_handle-Ok old (named old as_device device) on h) _) a.1) p
  does (call.Poll wishes) leaves p = goes (first_wish old wishes) _ (λ on h a. same a.1) p
  does (call.WaitUntil wishes) leaves p = goes (first_wish old wishes) _ (λ on h a. wish on a) p
  does call.Kept leaves p = same p.1
  does (call.Render decoder target info bytes) leaves p =
      goes (render old decoder target info) (Counts old reply new caller info bytes) (λ on h a. counts target info bytes on (render_named old decoder target info on h).1 a) p
  does (call.Mix mixer structure video output) leaves p =
      goes (mix old mixer structure video output) (Mixes old reply new caller) (λ on h a.
      left _ (alike as_output output on.output (mix_named old mixer structure video output on h).1 (OutputObject (record on.output.value { bytes = a.bytes })) (λ was e. output_still was on.output.value a.bytes e)) a.leaves.1) p

  pub step_stays : (asked : Call) → LeavesPlace old place asked → Step old caller asked reply new → Stays place old.objects new.objects
  step_stays asked leaves (inl lacks) = same lacks.1.1
  step_stays asked leaves (inr is) = does asked leaves is
