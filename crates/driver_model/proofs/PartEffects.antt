-- What a step does to the objects and notes as a whole: nothing, or it makes an object, or it changes those of one device, which is
-- that of the call's first name.
use Rattle.std.proofs.Common.{◌≡◌, ◌⊎◌, inl, inr, ℕ, ◌==◌, Bool, true, false, ◌||◌, List, length, slice_get, Option, Some, None, Ok, Err, MatchOption, refl, ap, sym, ◌∙◌, subst}
use Rattle.std.proofs.lemmas.Bool.{false≢true, or_parts}
use Rattle.std.specs.Option.{is_some}
use Rattle.cb_types.specs.declared.picture_info.PictureInfo.{PictureInfo}
use Rattle.decoder_render.specs.declared.outcome.Outcome.{Outcome}
use Rattle.decoder_render.specs.declared.outcome.Outcome.TheVariants as outcome
use Rattle.handle_table.specs.Name.{kind_of}
use Rattle.present_queue.specs.Queue.{Queue}
use Rattle.vd_plane.specs.declared.picture.Picture.{Picture}
use Rattle.vd_status.specs.declared.refusal.Refusal.{Refusal}
use Rattle.driver_model.specs.Answers.{Goes, IsRefused, Leaves, Reply, Tells}
use Rattle.driver_model.specs.Creates.{Creates, handles_full, is_full, live_devices, live_queues, new_device}
use Rattle.driver_model.specs.Jobs.{reply_of}
use Rattle.driver_model.specs.Mixes.{Mixes, Mixing}
use Rattle.driver_model.specs.Objects.{Content, Device, VideoObject, OutputObject, QueueObject, VideoSurface, PresentationQueue, Object, as_decoder, as_device, as_mixer, as_output, as_queue, as_video, kind_number}
use Rattle.driver_model.specs.Parts.{first_name, name_given}
use Rattle.driver_model.specs.Queues as queues
use Rattle.driver_model.specs.Refusals.{Looked}
use Rattle.driver_model.specs.Renders.{Counts, Decodes, Rendering, decoded, units_counted}
use Rattle.driver_model.specs.Sound.{AreSound}
use Rattle.driver_model.specs.States.{State, Found, destroyed, destroyed_with, is_given, named, with_content, with_note, with_object}
use Rattle.driver_model.specs.Surfaces as surfaces
use Rattle.driver_model.specs.declared.calls.Call.{Call}
use Rattle.driver_model.specs.declared.calls.Call.TheVariants as call
use Rattle.driver_model.specs.declared.numbers.TheConstants.{MAX_DEVICES, MAX_QUEUES}
use Rattle.driver_model.specs.declared.replies.Answer.{Answer}
use Rattle.driver_model.specs.declared.replies.Answer.TheVariants.{Done, Holds, Name}
use Rattle.driver_model.proofs.Named.{named-Some}
use Rattle.driver_model.proofs.PartFirsts.{Finds, IsMadeAt, IsMixOn, IsRenderOn}
use Rattle.driver_model.proofs.PartLooks.{AreRooted}
use Rattle.driver_model.proofs.PartStill.{AreStill, content_still, destroyed_still, destroyed_with_still, output_kind, queue_kind, still_all, video_kind}

-- The object of the call's first name, and its device.
pub record IsOn (old : State) (call : Call) (device : ℕ) : Type 0 where
  pub name : ℕ
  pub first : first_name call ≡ Some name
  pub place : ℕ
  pub object : Object
  pub stands : slice_get old.objects place ≡ Some object
  pub has_name : object.name ≡ name
  pub of_device : object.device ≡ device

-- A job was begun, whose target is on the device.
pub record IsNoted (old new : State) (caller : List ℕ) (device : ℕ) : Type 0 where
  pub target : ℕ
  pub outcome : Outcome
  pub object : Object
  pub stands : slice_get old.objects target ≡ Some object
  pub of_device : object.device ≡ device
  pub notes : new.notes ≡ (with_note old caller target outcome).notes

pub record Changed (old new : State) (caller : List ℕ) (call : Call) : Type 0 where
  pub device : ℕ
  pub on : IsOn old call device
  pub still : AreStill device old.objects new.objects
  pub items : new.items ≡ old.items
  pub notes : (new.notes ≡ old.notes) ⊎ IsNoted old new caller device

-- The new object is a device of its own, or it is on the device of the call's first name.
abbrev pub IsNewRoot : State → Call → Object → Type 0
IsNewRoot old asked one = (asked ≡ call.DeviceCreate) × (one.device ≡ length old.objects) × (is_some (as_device one.content) ≡ true)

pub record IsMade (old : State) (call : Call) (one : Object) : Type 0 where
  pub name : ℕ
  pub first : first_name call ≡ Some name
  pub root : Object
  pub stands : slice_get old.objects one.device ≡ Some root
  pub has_name : root.name ≡ name
  pub is_device : is_some (as_device root.content) ≡ true
  pub no_device : is_some (as_device one.content) ≡ false

pub record Grown (old new : State) (call : Call) (reply : Reply) : Type 0 where
  pub one : Object
  pub grows : new ≡ with_object old one
  pub tells : reply ≡ Ok (Name one.name)
  pub fresh : is_given old one.name ≡ false
  pub kind : kind_of one.name ≡ kind_number one.content
  pub free : is_full old ≡ false
  pub devices : is_some (as_device one.content) ≡ true → (live_devices old == MAX_DEVICES) ≡ false
  pub queues : is_some (as_queue one.content) ≡ true → (live_queues old == MAX_QUEUES) ≡ false
  pub origin : IsNewRoot old call one ⊎ IsMade old call one

-- No name is given, and nothing or one device is changed; or a name is given, and its object is made.
abbrev pub Effect : (old new : State) (caller : List ℕ) (call : Call) (reply : Reply) → Type 0
Effect old new caller call reply = ((name_given reply ≡ None) × ((new ≡ old) ⊎ Changed old new caller call)) ⊎ Grown old new call reply

module _ (old new : State) (caller : List ℕ) (reply : Reply) (rooted : AreRooted old.objects) (sound : AreSound old.objects) where
  abbrev Effects : Call → Type 0
  Effects call = Effect old new caller call reply

  pub refused_effect : (call : Call) (r : Refusal) → IsRefused old reply new r → Effects call
  refused_effect call r p = inl (ap name_given p.0, inl p.1)

  pub tells_effect : (call : Call) (x : Answer) → name_given (Ok x) ≡ None → Tells old reply new x → Effects call
  tells_effect call x none p = inl (ap name_given p.0 ∙ none, inl p.1)

  pub goes_effect : {A : Type 0} (call : Call) (looked : Looked A) (D : A → Type 0) → ((on : A) → looked ≡ Ok on → D on → Effects call) → Goes old reply new looked D → Effects call
  goes_effect call (Ok on) D row p = row on refl p
  goes_effect call (Err r) D row p = refused_effect call r p

  -- ---- changes

  pub named_on : {T : Type 0} (as_kind : Content → Option T) (call : Call) (name : ℕ) (on : Found T) → first_name call ≡ Some name → named old as_kind name ≡ Some on → IsOn old call on.device
  named_on as_kind call name on first e =
      let is = named-Some as_kind name old on e in
      record { name = name; first = first; place = on.place; object = is.0; stands = is.1; has_name = is.2.has_name; of_device = sym is.2.of_device }

  -- the objects that a look has found
  module _ {T : Type 0} (as_kind : Content → Option T) (name : ℕ) (on : Found T) (e : named old as_kind name ≡ Some on) where
    pub found_content : (kind : ℕ) → ((content : Content) → as_kind content ≡ Some on.value → kind_number content ≡ kind) → (content : Content) → kind_number content ≡ kind → AreStill on.device old.objects (with_content old on.place content).objects
    found_content kind is_kind content same =
        let is = named-Some as_kind name old on e in
        content_still on.device old on.place is.0 is.1 (sym is.2.of_device) content (same ∙ sym (is_kind is.0.content is.2.is_kind))

    found_destroyed : AreStill on.device old.objects (destroyed old on.place).objects
    found_destroyed = let is = named-Some as_kind name old on e in destroyed_still on.device old on.place is.0 is.1 (sym is.2.of_device)

    pub found_destroyed_with : (kind : ℕ) → ((content : Content) → as_kind content ≡ Some on.value → kind_number content ≡ kind) → (content : Content) → kind_number content ≡ kind
        → AreStill on.device old.objects (destroyed_with old on.place content).objects
    found_destroyed_with kind is_kind content same =
        let is = named-Some as_kind name old on e in
        destroyed_with_still on.device old on.place is.0 is.1 (sym is.2.of_device) content (same ∙ sym (is_kind is.0.content is.2.is_kind))

  -- a device that was found stands at its own place
  pub root_place : (name : ℕ) (on : Found Device) → named old as_device name ≡ Some on → on.device ≡ on.place
  root_place name on e =
      let is = named-Some as_device name old on e in
      is.2.of_device ∙ (rooted on.place is.0 is.1).is_device (ap is_some is.2.is_kind)

  -- the call is done, and leaves this state, in which no note is new
  pub changes : (call : Call) (device : ℕ) (left : State) (x : Answer) → name_given (Ok x) ≡ None → IsOn old call device → AreStill device old.objects left.objects → left.items ≡ old.items → left.notes ≡ old.notes
      → reply ≡ Ok x → new ≡ left → Effects call
  changes call device left x none on still items notes tells is = inl (
    ap name_given tells ∙ none,
    inr (record {
      device = device;
      on = on;
      still = subst (λ (u : State). AreStill device old.objects u.objects) (sym is) still;
      items = ap (λ (u : State). u.items) is ∙ items;
      notes = inl (ap (λ (u : State). u.notes) is ∙ notes);
    }),
  )

  -- ---- creates

  pub made_effect : (call : Call) (name : ℕ) (full : Bool) (looked : Looked ℕ) (IsContent : Content → Type 0) → first_name call ≡ Some name → Finds (IsMadeAt old name full) looked
      → ((content : Content) → IsContent content → is_some (as_device content) ≡ false)
      → ((content : Content) → IsContent content → is_some (as_queue content) ≡ true → full ≡ (live_queues old == MAX_QUEUES))
      → Creates old reply new looked IsContent → Effects call
  made_effect call name full (Err r) IsContent first finds no_device queue p = refused_effect call r p
  made_effect call name full (Ok place) IsContent first finds no_device queue (inr p) = refused_effect call (handles_full old) p.1
  made_effect call name full (Ok place) IsContent first finds no_device queue (inl p) =
      let at = finds place refl in
      let parts = or_parts (is_full old) full at.0 in
      let is = named-Some as_device name old at.1 at.2 in
      inr (record {
        one = record { name = p.name; device = place; is_live = true; content = p.content };
        grows = p.after;
        tells = p.tells;
        fresh = p.fresh;
        kind = p.kind;
        free = parts.0;
        devices = λ d. absurd (false≢true (sym (no_device p.content p.is_content) ∙ d));
        queues = λ k. sym (queue p.content p.is_content k) ∙ parts.1;
        origin = inr (record {
          name = name;
          first = first;
          root = is.0;
          stands = subst (λ n. slice_get old.objects n ≡ Some is.0) at.3 is.1;
          has_name = is.2.has_name;
          is_device = ap is_some is.2.is_kind;
          no_device = no_device p.content p.is_content;
        });
      })

  pub root_effect : (looked : Looked ℕ) → Finds (λ place. ((is_full old || (live_devices old == MAX_DEVICES)) ≡ false) × (place ≡ length old.objects)) looked
      → Creates old reply new looked (λ content. content ≡ new_device) → Effects call.DeviceCreate
  root_effect (Err r) finds p = refused_effect call.DeviceCreate r p
  root_effect (Ok place) finds (inr p) = refused_effect call.DeviceCreate (handles_full old) p.1
  root_effect (Ok place) finds (inl p) =
      let at = finds place refl in
      let parts = or_parts (is_full old) (live_devices old == MAX_DEVICES) at.0 in
      inr (record {
        one = record { name = p.name; device = place; is_live = true; content = p.content };
        grows = p.after;
        tells = p.tells;
        fresh = p.fresh;
        kind = p.kind;
        free = parts.0;
        devices = λ d. parts.1;
        queues = λ k. absurd (false≢true (sym (ap (λ content. is_some (as_queue content)) p.is_content) ∙ k));
        origin = inl (refl, at.1, ap (λ content. is_some (as_device content)) p.is_content);
      })

  -- a content that is no device, and one that is no queue either
  pub is_no : (test : Content → Bool) (is content : Content) → test is ≡ false → content ≡ is → test content ≡ false
  is_no test is content none e = ap test e ∙ none

  pub no_queue : (is content : Content) → is_some (as_queue is) ≡ false → content ≡ is → is_some (as_queue content) ≡ true → false ≡ (live_queues old == MAX_QUEUES)
  no_queue is content none e k = absurd (false≢true (sym (ap (λ o. is_some (as_queue o)) e ∙ none) ∙ k))

  -- ---- destroys and queues

  pub gone : {T : Type 0} (as_kind : Content → Option T) (call : Call) (name : ℕ) (on : Found T) → first_name call ≡ Some name → named old as_kind name ≡ Some on → Leaves old reply new (destroyed old on.place) → Effects call
  gone as_kind call name on first e a =
      changes call on.device (destroyed old on.place) Done refl (named_on as_kind call name on first e) (found_destroyed as_kind name on e) refl refl a.0 a.1

  pub queue_left : (call : Call) (name : ℕ) (on : Found PresentationQueue) (queue : Queue ℕ) → first_name call ≡ Some name → named old as_queue name ≡ Some on → Leaves old reply new (queues.with_queue old on queue) → Effects call
  queue_left call name on queue first e a =
      changes call on.device (queues.with_queue old on queue) Done refl (named_on as_queue call name on first e)
      (found_content as_queue name on e (kind_number (QueueObject on.value)) (λ content k. queue_kind content on.value k) (QueueObject (record on.value { queue = queue })) refl) refl refl a.0 a.1

  -- ---- jobs and waits

  reply_of-none : (o : Outcome) → name_given (reply_of o) ≡ None
  reply_of-none outcome.Ok = refl
  reply_of-none (outcome.Bitstream slice) = refl
  reply_of-none (outcome.Incomplete macroblocks) = refl

  abbrev IsStillBy : ℕ → State → Type 0
  IsStillBy device left = AreStill device old.objects left.objects × (left.items ≡ old.items) × (left.notes ≡ old.notes)

  decoded_still : (handle : ℕ) (target : Found VideoSurface) → named old as_video handle ≡ Some target → (picture : Picture) (o : Outcome) → IsStillBy target.device (decoded old target picture o)
  decoded_still handle target e picture outcome.Ok =
      (found_content as_video handle target e (kind_number (VideoObject target.value)) (λ content is. video_kind content target.value is) (VideoObject (record target.value { picture = picture })) refl, refl, refl)
  decoded_still handle target e picture (outcome.Bitstream slice) = (still_all target.device old.objects, refl, refl)
  decoded_still handle target e picture (outcome.Incomplete macroblocks) = (still_all target.device old.objects, refl, refl)

  -- a job is noted, over a state that is still
  noted : {T : Type 0} (as_kind : Content → Option T) (call : Call) (handle : ℕ) (target : Found T) (left : State) (o : Outcome) → named old as_kind handle ≡ Some target → IsOn old call target.device → IsStillBy target.device left
      → name_given reply ≡ None → new ≡ with_note left caller target.place o → Effects call
  noted as_kind call handle target left o e on still none is =
      let there = named-Some as_kind handle old target e in
      inl (
        none,
        inr (record {
          device = target.device;
          on = on;
          still = subst (λ (u : State). AreStill target.device old.objects u.objects) (sym is) still.0;
          items = ap (λ (u : State). u.items) is ∙ still.1;
          notes = inr (record {
            target = target.place;
            outcome = o;
            object = there.0;
            stands = there.1;
            of_device = sym there.2.of_device;
            notes =
                ap (λ (u : State). u.notes) is
                ∙ (λ i. (with_note (record old { notes = still.2 i; items = still.1 i }) caller target.place o).notes);
          });
        }),
      )

  pub render_effect : (decoder target : ℕ) (info : PictureInfo) (bytes : List ℕ) (on : Rendering) → IsRenderOn old decoder target on → Counts old reply new caller info bytes on → Effects (call.Render decoder target info bytes)
  render_effect decoder target info bytes on is p =
      goes_effect (call.Render decoder target info bytes) (units_counted info (length p.payloads)) (λ nothing. Decodes old reply new caller info p.payloads on) (λ nothing h d.
      noted as_video (call.Render decoder target info bytes) target on.target (decoded old on.target d.picture d.outcome) d.outcome is.1
      (subst (IsOn old (call.Render decoder target info bytes)) (sym is.2) (named_on as_decoder (call.Render decoder target info bytes) decoder on.decoder refl is.0))
      (decoded_still target on.target is.1 d.picture d.outcome) (ap name_given d.tells ∙ reply_of-none d.outcome) d.after) p.goes

  pub mix_effect : (handle structure video onto : ℕ) (on : Mixing) → IsMixOn old handle onto on → Mixes old reply new caller on → Effects (call.Mix handle structure video onto)
  mix_effect handle structure video onto on is p =
      noted as_output (call.Mix handle structure video onto) onto on.output (surfaces.with_bytes old on.output p.bytes) outcome.Ok is.1
      (subst (IsOn old (call.Mix handle structure video onto)) (sym is.2) (named_on as_mixer (call.Mix handle structure video onto) handle on.mixer refl is.0))
      (found_content as_output onto on.output is.1 (kind_number (OutputObject on.output.value)) (λ content k. output_kind content on.output.value k) (OutputObject (record on.output.value { bytes = p.bytes })) refl, refl, refl)
      (ap name_given p.leaves.0) p.leaves.1

  pub wish_effect : (call : Call) (place : Option ℕ) → MatchOption place ⊥ (λ found. Tells old reply new (Holds (Some found))) → Effects call
  wish_effect call None p = absurd p
  wish_effect call (Some found) p = tells_effect call (Holds (Some found)) refl p
