-- A step leaves a device, a decoder or a video surface as it is, where it doesn't touch that one.
use Rattle.std.proofs.Common.{◌≡◌, ◌≢◌, inl, inr, ℕ, zero, suc, ◌==◌, Bool, true, false, if◌then◌else◌, List, [], ◌∷◌, length, map, slice_get, Option, Some, None, Ok, Err, MatchOption, refl, ap, sym, ◌∙◌, subst}
use Rattle.std.specs.Prelude.{⊤}
use Rattle.std.proofs.lemmas.Bool.{cases_eq, eqb-true, false≢true}
use Rattle.std.specs.Option.{ok_or}
use Rattle.cb_types.specs.declared.picture_info.PictureInfo.{PictureInfo}
use Rattle.decoder_render.specs.declared.outcome.Outcome.{Outcome}
use Rattle.decoder_render.specs.declared.outcome.Outcome.TheVariants as outcome
use Rattle.vd_plane.specs.declared.picture.Picture.{Picture}
use Rattle.vd_status.specs.declared.refusal.Refusal.TheVariants.{InvalidHandle}
use Rattle.driver_model.specs.Answers.{Goes, Reply, Tells}
use Rattle.driver_model.specs.Clock as clock
use Rattle.driver_model.specs.Clock.{Due, all_shown, destroyed_on, let_go, shown, with_flip, with_tick}
use Rattle.driver_model.specs.Creates.{Creates, decoder_create, device_create, mixer_create, output_create, queue_create, video_create}
use Rattle.driver_model.specs.Mixes.{Mixes, mix}
use Rattle.driver_model.specs.Objects.{Content, Device, DeviceObject, VideoObject, OutputObject, DecoderObject, MixerObject, QueueObject, Object, Decoder, VideoSurface, as_decoder, as_device, as_mixer, as_output, as_queue, as_video}
use Rattle.driver_model.specs.Queues as queues
use Rattle.driver_model.specs.Refusals.{Looked, first_handle}
use Rattle.driver_model.specs.Renders.{Counts, Decodes, Rendering, decoded, render, units_counted}
use Rattle.driver_model.specs.States.{State, Found, changed_at, named, with_content}
use Rattle.driver_model.specs.Steps.{Does, Step}
use Rattle.driver_model.specs.Surfaces as surfaces
use Rattle.driver_model.specs.Wishes.{first_wish}
use Rattle.driver_model.specs.declared.calls.Call.{Call}
use Rattle.driver_model.specs.declared.calls.Call.TheVariants as call
use Rattle.driver_model.specs.declared.replies.Answer.TheVariants.{Holds}
use Rattle.driver_model.proofs.Looks.{err_not_ok, first_handle-Ok, ok_is}
use Rattle.driver_model.proofs.Named.{named-Some}
use Rattle.driver_model.proofs.NoteLists.{get_in, nothing_at, some_is}
use Rattle.driver_model.proofs.PartFirsts.{advance_named, display_named, mix_named, output_bits_named, render_named, video_bits_named}
use Rattle.driver_core.proofs.ContentStands.{get_changed_other, get_changed_same}

-- ---- what of an object a step may change beside these

-- a device, a decoder or a video surface
abbrev pub is_kept : Content → Bool
is_kept (DeviceObject of) = true
is_kept (VideoObject of) = true
is_kept (OutputObject of) = false
is_kept (DecoderObject of) = true
is_kept (MixerObject of) = false
is_kept (QueueObject of) = false

-- The object with this content, but for a device's time, and whether a device lives.
abbrev pub still : Object → Content → Object
still one (DeviceObject of) = record one { is_live = true; content = DeviceObject (record of { time = 0 }) }
still one (VideoObject of) = record one { content = VideoObject of }
still one (OutputObject of) = record one { content = OutputObject of }
still one (DecoderObject of) = record one { content = DecoderObject of }
still one (MixerObject of) = record one { content = MixerObject of }
still one (QueueObject of) = record one { content = QueueObject of }

kind_still : (one : Object) (content : Content) → is_kept (still one content).content ≡ is_kept content
kind_still one (DeviceObject of) = refl
kind_still one (VideoObject of) = refl
kind_still one (OutputObject of) = refl
kind_still one (DecoderObject of) = refl
kind_still one (MixerObject of) = refl
kind_still one (QueueObject of) = refl

no_output : (content : Content) (of : _) → as_output content ≡ Some of → is_kept content ≡ false
no_output (DeviceObject is) of e = nothing_at of e
no_output (VideoObject is) of e = nothing_at of e
no_output (OutputObject is) of e = refl
no_output (DecoderObject is) of e = nothing_at of e
no_output (MixerObject is) of e = refl
no_output (QueueObject is) of e = refl

no_mixer : (content : Content) (of : _) → as_mixer content ≡ Some of → is_kept content ≡ false
no_mixer (DeviceObject is) of e = nothing_at of e
no_mixer (VideoObject is) of e = nothing_at of e
no_mixer (OutputObject is) of e = refl
no_mixer (DecoderObject is) of e = nothing_at of e
no_mixer (MixerObject is) of e = refl
no_mixer (QueueObject is) of e = refl

no_queue : (content : Content) (of : _) → as_queue content ≡ Some of → is_kept content ≡ false
no_queue (DeviceObject is) of e = nothing_at of e
no_queue (VideoObject is) of e = nothing_at of e
no_queue (OutputObject is) of e = refl
no_queue (DecoderObject is) of e = nothing_at of e
no_queue (MixerObject is) of e = refl
no_queue (QueueObject is) of e = refl

tick_still : (time : ℕ) (one : Object) (content : Content) → is_kept content ≡ true → still (record one { content = with_tick time content }) (with_tick time content) ≡ still one content
tick_still time one (DeviceObject of) is = refl
tick_still time one (VideoObject of) is = refl
tick_still time one (OutputObject of) is = absurd (false≢true is)
tick_still time one (DecoderObject of) is = refl
tick_still time one (MixerObject of) is = absurd (false≢true is)
tick_still time one (QueueObject of) is = absurd (false≢true is)

flip_still : (queue time : ℕ) (one : Object) (content : Content) → is_kept content ≡ true → still (record one { content = with_flip queue time content }) (with_flip queue time content) ≡ still one content
flip_still queue time one (DeviceObject of) is = refl
flip_still queue time one (VideoObject of) is = refl
flip_still queue time one (OutputObject of) is = absurd (false≢true is)
flip_still queue time one (DecoderObject of) is = refl
flip_still queue time one (MixerObject of) is = absurd (false≢true is)
flip_still queue time one (QueueObject of) is = absurd (false≢true is)

time_still : (time : ℕ) (one : Object) (content : Content) (of : Device) → as_device content ≡ Some of
    → still (record one { content = DeviceObject (record of { time = time }) }) (DeviceObject (record of { time = time })) ≡ still one content
time_still time one (DeviceObject is) of e = ap (λ (d : Device). record one { is_live = true; content = DeviceObject (record d { time = 0 }) }) (sym (some_is is of e))
time_still time one (VideoObject is) of e = nothing_at of e
time_still time one (OutputObject is) of e = nothing_at of e
time_still time one (DecoderObject is) of e = nothing_at of e
time_still time one (MixerObject is) of e = nothing_at of e
time_still time one (QueueObject is) of e = nothing_at of e

-- an object whose device is destroyed, where that object is kept
end_still : (one : Object) (content : Content) (own : Bool) → is_kept content ≡ true → (as_device content ≡ None → own ≡ false)
    → still (if own then record one { is_live = false; content = let_go content } else record one { content = content }) (if own then record one { is_live = false; content = let_go content } else record one { content = content }).content ≡ still one content
end_still one (DeviceObject of) true is apart = refl
end_still one (VideoObject of) true is apart = absurd (false≢true (sym (apart refl)))
end_still one (OutputObject of) true is apart = absurd (false≢true is)
end_still one (DecoderObject of) true is apart = absurd (false≢true (sym (apart refl)))
end_still one (MixerObject of) true is apart = absurd (false≢true is)
end_still one (QueueObject of) true is apart = absurd (false≢true is)
end_still one (DeviceObject of) false is apart = refl
end_still one (VideoObject of) false is apart = refl
end_still one (OutputObject of) false is apart = absurd (false≢true is)
end_still one (DecoderObject of) false is apart = refl
end_still one (MixerObject of) false is apart = absurd (false≢true is)
end_still one (QueueObject of) false is apart = absurd (false≢true is)

-- ---- one place in a list of objects

module _ (place : ℕ) where
  -- what is kept of the object at the place stays
  abbrev pub Stays : List Object → List Object → Type 0
  Stays old new = (one : Object) → slice_get old place ≡ Some one → is_kept one.content ≡ true → (now : Object) × (slice_get new place ≡ Some now) × (still now now.content ≡ still one one.content)

  stays_same : (objects : List Object) → Stays objects objects
  stays_same objects one at is = (one, at, refl)

  stays_then : (a b c : List Object) → Stays a b → Stays b c → Stays a c
  stays_then a b c first second one at is =
      let f = first one at is in
      let kept : is_kept f.0.content ≡ true = sym (kind_still f.0 f.0.content) ∙ (ap (λ (o : Object). is_kept o.content) f.2 ∙ (kind_still one one.content ∙ is)) in
      let s = second f.0 f.1 kept in
      (s.0, s.1, s.2 ∙ f.2)

  stays_changed : (change : Object → Object) (other : ℕ) (objects : List Object)
      → ((one : Object) → other ≡ place → slice_get objects place ≡ Some one → is_kept one.content ≡ true → still (change one) (change one).content ≡ still one one.content)
      → Stays objects (changed_at other change objects)
  stays_changed change other objects same one at is = elim (cases_eq other place) [
    | inl e ↦ (change one, subst (λ p. slice_get (changed_at p change objects) place ≡ Some (change one)) (sym e) (get_changed_same change place objects one at), same one e at is)
    | inr apart ↦ (one, get_changed_other change other place objects (λ e. apart (sym e)) ∙ at, refl)
  ]

  stays_map : (change : Object → Object) (objects : List Object) → ((one : Object) → slice_get objects place ≡ Some one → is_kept one.content ≡ true → still (change one) (change one).content ≡ still one one.content) → Stays objects (map change objects)
  stays_map change objects same one at is = (change one, mapped objects place at, same one at is) where
    mapped : (objects : List Object) (place : ℕ) → slice_get objects place ≡ Some one → slice_get (map change objects) place ≡ Some (change one)
    mapped [] place at = nothing_at one at
    mapped (first ∷ later) zero at = ap (λ o. Some (change o)) (some_is first one at)
    mapped (first ∷ later) (suc place) at = mapped later place at

  stays_shown : (time : ℕ) (due : Due) (objects : List Object) → Stays objects (shown time due objects)
  stays_shown time due objects =
      let tick : Object → Object = λ object. record object { content = with_tick time object.content } in
      let flip : Object → Object = λ object. record object { content = with_flip due.queue time object.content } in
      stays_then objects (changed_at due.queue tick objects) (shown time due objects)
      (stays_changed tick due.queue objects (λ one e at is. tick_still time one one.content is))
      (stays_changed flip due.surface (changed_at due.queue tick objects) (λ one e at is. flip_still due.queue time one one.content is))

  stays_all_shown : (time : ℕ) (dues : List Due) (objects : List Object) → Stays objects (all_shown time dues objects)
  unfolding all_shown
  stays_all_shown time [] objects = stays_same objects
  stays_all_shown time (due ∷ later) objects =
      stays_then objects (shown time due objects) (all_shown time later (shown time due objects)) (stays_shown time due objects) (stays_all_shown time later (shown time due objects))

-- ---- one step

-- The call doesn't touch what is kept at this place.
abbrev pub LeavesPlace : State → ℕ → Call → Type 0
LeavesPlace s place (call.DeviceDestroy name) =
    (on : Found Device) → named s as_device name ≡ Some on → (one : Object) → slice_get s.objects place ≡ Some one → as_device one.content ≡ None → one.device ≢ on.place
LeavesPlace s place (call.Preempt name) = (on : Found Device) → named s as_device name ≡ Some on → on.place ≢ place
LeavesPlace s place (call.DecoderDestroy name) = (on : Found Decoder) → named s as_decoder name ≡ Some on → on.place ≢ place
LeavesPlace s place (call.VideoPutBits name format bytes) = (on : Found VideoSurface) → named s as_video name ≡ Some on → on.place ≢ place
LeavesPlace s place (call.VideoDestroy name) = (on : Found VideoSurface) → named s as_video name ≡ Some on → on.place ≢ place
LeavesPlace s place (call.Render decoder name info bytes) = (on : Found VideoSurface) → named s as_video name ≡ Some on → on.place ≢ place
LeavesPlace s place _ = ⊤

module _ (place : ℕ) (old new : State) (caller : List ℕ) (reply : Reply) where
  left : (after : State) → Stays place old.objects after.objects → new ≡ after → Stays place old.objects new.objects
  left after stays e = subst (λ (t : State). Stays place old.objects t.objects) (sym e) stays

  same : new ≡ old → Stays place old.objects new.objects
  same e = left old (stays_same place old.objects) e

  goes : {A : Type 0} (looked : Looked A) (D : A → Type 0) → ((on : A) → looked ≡ Ok on → D on → Stays place old.objects new.objects) → Goes old reply new looked D → Stays place old.objects new.objects
  goes (Ok on) D row p = row on refl p
  goes (Err r) D row p = same p.1

  makes : (looked : Looked ℕ) (IsContent : Content → Type 0) → Creates old reply new looked IsContent → Stays place old.objects new.objects
  makes (Err r) IsContent p = same p.1
  makes (Ok device) IsContent (inr p) = same p.1.1
  makes (Ok device) IsContent (inl p) =
      let made : Object = record { name = p.name; device = device; is_live = true; content = p.content } in
      left _ (λ one at is. (one, get_in old.objects (made ∷ []) place one at, refl)) p.after

  -- another place is changed
  apart : (change : Object → Object) (other : ℕ) → other ≢ place → Stays place old.objects (changed_at other change old.objects)
  apart change other differs = stays_changed place change other old.objects (λ one e at is. absurd (differs e))

  -- what isn't kept is changed
  plain : {T : Type 0} (as_kind : Content → Option T) (not_kept : (content : Content) (of : T) → as_kind content ≡ Some of → is_kept content ≡ false) (name : ℕ) (on : Found T) → named old as_kind name ≡ Some on
      → (change : Object → Object) → Stays place old.objects (changed_at on.place change old.objects)
  plain as_kind not_kept name on found change =
      let stands = named-Some as_kind name old on found in
      stays_changed place change on.place old.objects (λ one e at is.
      let one_is : stands.0 ≡ one = some_is stands.0 one (sym stands.1 ∙ (ap (slice_get old.objects) e ∙ at)) in
      absurd (false≢true (sym (not_kept stands.0.content on.value stands.2.is_kind) ∙ (ap (λ (o : Object). is_kept o.content) one_is ∙ is))))

  -- the time of a device is changed
  timed : (name time : ℕ) (on : Found Device) → named old as_device name ≡ Some on → Stays place old.objects (with_content old on.place (DeviceObject (record on.value { time = time }))).objects
  timed name time on found =
      let stands = named-Some as_device name old on found in
      stays_changed place (λ object. record object { content = DeviceObject (record on.value { time = time }) }) on.place old.objects (λ one e at is.
      let one_is : stands.0 ≡ one = some_is stands.0 one (sym stands.1 ∙ (ap (slice_get old.objects) e ∙ at)) in
      time_still time one one.content on.value (ap (λ (o : Object). as_device o.content) (sym one_is) ∙ stands.2.is_kind))

  ended : (on : ℕ) → ((one : Object) → slice_get old.objects place ≡ Some one → as_device one.content ≡ None → one.device ≢ on) → Stays place old.objects (map (destroyed_on on) old.objects)
  ended on leaves =
      stays_map place (destroyed_on on) old.objects (λ one at is.
      end_still one one.content (one.device == on) is (λ none. not_own one at none)) where
        not_own : (one : Object) → slice_get old.objects place ≡ Some one → as_device one.content ≡ None → (one.device == on) ≡ false
        not_own one at none = by_test (one.device == on) refl where
          by_test : (b : Bool) → (one.device == on) ≡ b → (one.device == on) ≡ false
          by_test true e = absurd (leaves one at none (eqb-true one.device on e))
          by_test false e = e

  wish : (found : Option ℕ) → MatchOption found ⊥ (λ n. Tells old reply new (Holds (Some n))) → Stays place old.objects new.objects
  wish None p = absurd p
  wish (Some n) p = same p.1

  decodes : (target : Found VideoSurface) (picture : Picture) (o : Outcome) → target.place ≢ place → Stays place old.objects (decoded old target picture o).objects
  decodes target picture outcome.Ok differs = apart _ target.place differs
  decodes target picture (outcome.Bitstream slice) differs = stays_same place old.objects
  decodes target picture (outcome.Incomplete macroblocks) differs = stays_same place old.objects

  counts : (info : PictureInfo) (bytes : List ℕ) (on : Rendering) → on.target.place ≢ place → Counts old reply new caller info bytes on → Stays place old.objects new.objects
  counts info bytes on differs p =
      goes (units_counted info (length p.payloads)) (λ nothing. Decodes old reply new caller info p.payloads on) (λ nothing h a. left _ (decodes on.target a.picture a.outcome differs) a.after) p.goes

  destroy_named : (name : ℕ) (on : Found Device) → clock.device_destroy old name ≡ Ok on → named old as_device name ≡ Some on
  destroy_named name on h = by_option (named old as_device name) h where
    by_option : (o : Option (Found Device)) → ok_or o (InvalidHandle 0) ≡ Ok on → o ≡ Some on
    by_option None k = absurd (err_not_ok (InvalidHandle 0) on k)
    by_option (Some found) k = ap Some (ok_is found on k)

  does : (asked : Call) → LeavesPlace old place asked → Does old caller asked reply new → Stays place old.objects new.objects
  does call.DeviceCreate leaves p = makes (device_create old) _ p
  does (call.DeviceDestroy device) leaves p = goes (clock.device_destroy old device) _ (λ on h a. left _ (ended on.place (leaves on (destroy_named device on h))) a.1) p
  does (call.VideoCreate device chroma width height) leaves p = makes (video_create old device chroma width height) _ p
  does (call.VideoParameters surface) leaves p = goes (surfaces.video old surface) _ (λ on h a. same a.1) p
  does (call.VideoGetBits surface format count) leaves p = goes (surfaces.video_bits old surface format count) _ (λ on h a. same a.1.1) p
  does (call.VideoPutBits surface format bytes) leaves p =
      goes (surfaces.video_bits old surface format (length bytes)) _ (λ on h a.
      left (surfaces.with_picture old on a.1.0) (apart _ on.place (leaves on (video_bits_named old surface format (length bytes) on h))) a.1.3.1) p
  does (call.VideoDestroy surface) leaves p = goes (surfaces.video old surface) _ (λ on h a. left _ (apart _ on.place (leaves on (first_handle-Ok old (named old as_video surface) on h))) a.1) p
  does (call.OutputCreate device format width height) leaves p = makes (output_create old device format width height) _ p
  does (call.OutputGetBits surface count) leaves p = goes (surfaces.output_bits old surface count) _ (λ on h a. same a.1.1) p
  does (call.OutputPutBits surface bytes) leaves p =
      goes (surfaces.output_bits old surface (length bytes)) _ (λ on h a. left (surfaces.with_bytes old on bytes) (plain as_output no_output surface on (output_bits_named old surface (length bytes) on h) _) a.1.1) p
  does (call.OutputDestroy surface) leaves p = goes (surfaces.output old surface) _ (λ on h a. left _ (plain as_output no_output surface on (first_handle-Ok old (named old as_output surface) on h) _) a.1) p
  does (call.DecoderQuery device profile) leaves p = goes (first_handle old (named old as_device device)) _ (λ on h a. same a.1) p
  does (call.DecoderCreate device profile width height max_references) leaves p = makes (decoder_create old device profile width height max_references) _ p
  does (call.DecoderDestroy decoder) leaves p = goes (surfaces.decoder old decoder) _ (λ on h a. left _ (apart _ on.place (leaves on (first_handle-Ok old (named old as_decoder decoder) on h))) a.1) p
  does (call.MixerCreate device width height) leaves p = makes (mixer_create old device width height) _ p
  does (call.MixerSetMatrix mixer matrix) leaves p = goes (surfaces.mixer old mixer) _ (λ on h a. left (surfaces.with_matrix old on matrix) (plain as_mixer no_mixer mixer on (first_handle-Ok old (named old as_mixer mixer) on h) _) a.1) p
  does (call.MixerDestroy mixer) leaves p = goes (surfaces.mixer old mixer) _ (λ on h a. left _ (plain as_mixer no_mixer mixer on (first_handle-Ok old (named old as_mixer mixer) on h) _) a.1) p
  does (call.QueueCreate device window) leaves p = makes (queue_create old device) _ p
  does (call.QueueDestroy queue) leaves p = goes (queues.queue old queue) _ (λ on h a. left _ (plain as_queue no_queue queue on (first_handle-Ok old (named old as_queue queue) on h) _) a.1) p
  does (call.QueueDisplay queue surface earliest) leaves p = goes (queues.queue_display old queue surface earliest) _ (λ on h a. left _ (plain as_queue no_queue queue on.queue (display_named old queue surface earliest on h) _) a.1) p
  does (call.QueryStatus queue surface) leaves p = goes (queues.presented old queue surface) _ (λ on h a. same a.1) p
  does (call.BlockUntilIdle queue surface) leaves p = goes (queues.presented old queue surface) _ (λ on h a. same a.1.1) p
  does (call.GetTime queue) leaves p = goes (queues.queue old queue) _ (λ on h a. same a.1) p
  does (call.Promise queue time) leaves p = goes (queues.queue old queue) _ (λ on h a. left _ (plain as_queue no_queue queue on (first_handle-Ok old (named old as_queue queue) on h) _) a.1) p
  does (call.Advance device time) leaves p =
      goes (clock.advance old device time) _ (λ on h a.
      let clocked : State = with_content old on.place (DeviceObject (record on.value { time = time })) in
      left (clock.ticked_at old on time)
      (stays_then place old.objects clocked.objects (clock.ticked_at old on time).objects (timed device time on (advance_named old device time on h)) (stays_all_shown place time (clock.all_due old on.place time) clocked.objects)) a.2) p
  does (call.Preempt device) leaves p = goes (clock.device old device) _ (λ on h a. left _ (apart _ on.place (leaves on (first_handle-Ok old (named old as_device device) on h))) a.1) p
  does (call.Poll wishes) leaves p = goes (first_wish old wishes) _ (λ on h a. same a.1) p
  does (call.WaitUntil wishes) leaves p = goes (first_wish old wishes) _ (λ on h a. wish on a) p
  does call.Kept leaves p = same p.1
  does (call.Render decoder target info bytes) leaves p =
      goes (render old decoder target info) (Counts old reply new caller info bytes) (λ on h a. counts info bytes on (leaves on.target (render_named old decoder target info on h).1) a) p
  does (call.Mix mixer structure video output) leaves p =
      goes (mix old mixer structure video output) (Mixes old reply new caller) (λ on h a.
      left _ (plain as_output no_output output on.output (mix_named old mixer structure video output on h).1 _) a.leaves.1) p

  pub step_stays : (asked : Call) → LeavesPlace old place asked → Step old caller asked reply new → Stays place old.objects new.objects
  step_stays asked leaves (inl lacks) = same lacks.1.1
  step_stays asked leaves (inr is) = does asked leaves is
