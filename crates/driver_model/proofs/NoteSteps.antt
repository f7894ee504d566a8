-- What a step does to the notes: a job that begins is noted with its reply and target, and any other call leaves them.
use Rattle.std.proofs.Common.{◌≡◌, ◌⊎◌, inl, inr, ℕ, ◌+◌, ◌==◌, ◌&&◌, ◌||◌, Bool, true, false, not, if◌then◌else◌, List, [], ◌∷◌, length, slice_get, Option, Some, None, Ok, Err, MatchOption, MatchResult, refl, ap, sym, ◌∙◌, subst}
use Rattle.std.specs.List.{position}
use Rattle.cb_types.specs.AcceptedInfo.{accepted_fields}
use Rattle.cb_types.specs.References.{is_absent, is_unused}
use Rattle.cb_types.specs.declared.picture_info.PictureInfo.{PictureInfo}
use Rattle.cb_types.specs.declared.picture_info.Reference.{Reference}
use Rattle.decoder_render.specs.declared.outcome.Outcome.{Outcome}
use Rattle.decoder_render.specs.declared.outcome.Outcome.TheVariants as outcome
use Rattle.vd_plane.specs.declared.picture.Picture.{Picture}
use Rattle.vd_status.specs.declared.refusal.Refusal.{Refusal}
use Rattle.vd_status.specs.declared.refusal.Refusal.TheVariants.{BadInfo, BadSize, BadStructure, DeviceMismatch, OutOfMemory, Preempted, SliceCount, TargetIsReference}
use Rattle.driver_model.specs.Answers.{Goes, IsRefused, Reply, Tells}
use Rattle.driver_model.specs.Clock as clock
use Rattle.driver_model.specs.Creates.{Creates, decoder_create, device_create, mixer_create, output_create, queue_create, video_create}
use Rattle.driver_model.specs.Jobs.{reply_of}
use Rattle.driver_model.specs.Mixes.{Mixes, Mixing, mix}
use Rattle.driver_model.specs.Notes.{target_name}
use Rattle.driver_model.specs.Objects.{VideoSurface, OutputSurface, Decoder, VideoMixer, Object, as_decoder, as_device, as_mixer, as_output, as_video}
use Rattle.driver_model.specs.Passes.{is_job, is_of_job}
use Rattle.driver_model.specs.Queues as queues
use Rattle.driver_model.specs.Refusals.{Looked, ◌>>=◌, ◌>>◌, first_handle, further_handle, refused_if}
use Rattle.driver_model.specs.Renders.{Counts, Decodes, Rendering, decoded, info_taken, is_of_other_size, is_own_reference, reference, references, render, rendering, units_counted}
use Rattle.driver_model.specs.Sizes.{is_same_size}
use Rattle.driver_model.specs.States.{State, Found, is_preempted, named, with_note}
use Rattle.driver_model.specs.Steps.{Does, Step}
use Rattle.driver_model.specs.Surfaces as surfaces
use Rattle.driver_model.specs.Wishes.{first_wish}
use Rattle.driver_model.specs.declared.calls.Call.{Call}
use Rattle.driver_model.specs.declared.calls.Call.TheVariants as call
use Rattle.driver_model.specs.declared.numbers.TheConstants.{FRAME}
use Rattle.driver_model.specs.declared.replies.Answer.TheVariants.{Holds}
use Rattle.driver_model.proofs.Named.{named-Some}
use Rattle.driver_model.proofs.PartFirsts.{mix_named, render_named}

-- ---- looks never refuse as a job's end does

abbrev IsPlainLook : {A : Type 0} → Looked A → Type 0
IsPlainLook looked = MatchResult looked (λ found. Unit {0}) (λ (r : Refusal). is_of_job (Err r) ≡ false)

then_plain : {A B : Type 0} (m : Looked A) (later : A → Looked B) → IsPlainLook m → ((a : A) → IsPlainLook (later a)) → IsPlainLook (m >>= later)
then_plain (Ok a) later is rest = rest a
then_plain (Err r) later is rest = is

guard_plain : {B : Type 0} (m : Looked (Unit {0})) (later : Looked B) → IsPlainLook m → IsPlainLook later → IsPlainLook (m >> later)
guard_plain (Ok a) later is rest = rest
guard_plain (Err r) later is rest = is

refused_if_plain : (test : Bool) (r : Refusal) → is_of_job (Err r) ≡ false → IsPlainLook (refused_if test r)
refused_if_plain true r is = is
refused_if_plain false r is = tt

module _ {T : Type 0} where
  first_plain : (s : State) (found : Option (Found T)) → IsPlainLook (first_handle s found)
  first_plain s None = refl
  first_plain s (Some found) = by_test (is_preempted s found.device) where
    by_test : (b : Bool) → IsPlainLook (if b then Err Preempted else Ok found)
    by_test true = refl
    by_test false = tt

  further_plain : (arg device : ℕ) (found : Option (Found T)) → IsPlainLook (further_handle arg device found)
  further_plain arg device None = refl
  further_plain arg device (Some found) = by_test (found.device == device) where
    by_test : (b : Bool) → IsPlainLook (if b then Ok found else Err (DeviceMismatch arg))
    by_test true = tt
    by_test false = refl

module _ (s : State) where
  reference_plain : (device arg : ℕ) (entry : Reference) → IsPlainLook (reference s device arg entry)
  reference_plain device arg entry = by_test (is_unused entry || is_absent entry) where
    by_test : (b : Bool) → IsPlainLook (if b then Ok None else (further_handle arg device (named s as_video entry.surface) >>= λ on. Ok (Some on)))
    by_test true = tt
    by_test false = then_plain (further_handle arg device (named s as_video entry.surface)) (λ on. Ok (Some on)) (further_plain arg device (named s as_video entry.surface)) (λ on. tt)

  references_plain : (device arg : ℕ) (entries : List Reference) → IsPlainLook (references s device arg entries)
  unfolding references
  references_plain device arg [] = tt
  references_plain device arg (entry ∷ later) =
      then_plain (reference s device arg entry) (λ found. references s device (arg + 1) later >>= λ others. Ok (found ∷ others)) (reference_plain device arg entry) (λ found.
      then_plain (references s device (arg + 1) later) (λ others. Ok (found ∷ others)) (references_plain device (arg + 1) later) (λ others. tt))

  info_plain : (decoder : Decoder) (info : PictureInfo) → IsPlainLook (info_taken decoder info)
  info_plain decoder info = by_field (position not (accepted_fields decoder.profile decoder.max_references info)) where
    by_field : (field : Option ℕ) → IsPlainLook (let looked : Looked (Unit {0}) = elim field as (λ f. Looked (Unit {0})) [ None ↦ Ok tt | Some n ↦ Err (BadInfo n) ] in looked)
    by_field None = tt
    by_field (Some n) = refl

  abbrev mixing_of : Found VideoMixer → Found VideoSurface → Found OutputSurface → Mixing
  mixing_of one two three = record { mixer = one; video = two; output = three }

  mix_plain : (handle structure surface onto : ℕ) → IsPlainLook (mix s handle structure surface onto)
  mix_plain handle structure surface onto =
      let fit : Found VideoMixer → Found VideoSurface → Found OutputSurface → Bool = λ one two three. not (is_same_size one.value.size two.value.size && is_same_size one.value.size three.value.size) in
      let sized : Found VideoMixer → Found VideoSurface → Found OutputSurface → Looked Mixing = λ one two three. refused_if (fit one two three) BadSize >> Ok (mixing_of one two three) in
      let last : Found VideoMixer → Found VideoSurface → Found OutputSurface → Looked Mixing = λ one two three. refused_if (not (structure == FRAME)) BadStructure >> sized one two three in
      let third : Found VideoMixer → Found VideoSurface → Looked Mixing = λ one two. further_handle 2 one.device (named s as_output onto) >>= last one two in
      then_plain (first_handle s (named s as_mixer handle)) (λ one. further_handle 1 one.device (named s as_video surface) >>= third one) (first_plain s (named s as_mixer handle)) (λ one.
      then_plain (further_handle 1 one.device (named s as_video surface)) (third one) (further_plain 1 one.device (named s as_video surface)) (λ two.
      then_plain (further_handle 2 one.device (named s as_output onto)) (last one two) (further_plain 2 one.device (named s as_output onto)) (λ three.
      guard_plain (refused_if (not (structure == FRAME)) BadStructure) (sized one two three) (refused_if_plain (not (structure == FRAME)) BadStructure refl)
      (guard_plain (refused_if (fit one two three) BadSize) (Ok (mixing_of one two three)) (refused_if_plain (fit one two three) BadSize refl) tt))))

  abbrev rendering_of : Found Decoder → Found VideoSurface → List (Option (Found VideoSurface)) → Rendering
  rendering_of one two three = record { decoder = one; target = two; references = three }

  render_plain : (handle surface : ℕ) (info : PictureInfo) → IsPlainLook (render s handle surface info)
  render_plain handle surface info =
      let taken : Rendering → Looked Rendering = λ at. info_taken at.decoder.value info >> Ok at in
      let sized : Rendering → Looked Rendering = λ at. refused_if (is_of_other_size at) BadSize >> taken at in
      let last : Found Decoder → Found VideoSurface → List (Option (Found VideoSurface)) → Looked Rendering = λ one two three. Ok (rendering_of one two three) in
      let third : Found Decoder → Found VideoSurface → Looked Rendering = λ one two. references s one.device 2 info.references >>= last one two in
      let found : IsPlainLook (rendering s handle surface info.references) =
      then_plain (first_handle s (named s as_decoder handle)) (λ one. further_handle 1 one.device (named s as_video surface) >>= third one) (first_plain s (named s as_decoder handle)) (λ one.
      then_plain (further_handle 1 one.device (named s as_video surface)) (third one) (further_plain 1 one.device (named s as_video surface)) (λ two.
      then_plain (references s one.device 2 info.references) (last one two) (references_plain one.device 2 info.references) (λ three. tt))) in
      then_plain (rendering s handle surface info.references) (λ at. refused_if (is_own_reference at) TargetIsReference >> sized at) found (λ at.
      guard_plain (refused_if (is_own_reference at) TargetIsReference) (sized at) (refused_if_plain (is_own_reference at) TargetIsReference refl)
      (guard_plain (refused_if (is_of_other_size at) BadSize) (taken at) (refused_if_plain (is_of_other_size at) BadSize refl)
      (guard_plain (info_taken at.decoder.value info) (Ok at) (info_plain at.decoder.value info) tt)))

-- ---- one step

-- the call begins a job, where this is its reply
abbrev pub begins : Call → Reply → Bool
begins asked reply = if is_job asked then is_of_job reply else false

-- The job is noted: with the call's target by its place, and with the outcome that is its reply.
pub record IsBegun (old new : State) (caller : List ℕ) (asked : Call) (reply : Reply) : Type 0 where
  pub job : is_job asked ≡ true
  pub target : ℕ
  pub object : Object
  pub stands : slice_get old.objects target ≡ Some object
  pub has_name : target_name asked ≡ Some object.name
  pub outcome : Outcome
  pub tells : reply ≡ reply_of outcome
  pub notes : new.notes ≡ (with_note old caller target outcome).notes
  pub items : new.items ≡ old.items

abbrev pub AreLeft : State → State → Type 0
AreLeft old new = (new.notes ≡ old.notes) × (new.items ≡ old.items)

abbrev pub NoteStep : State → State → List ℕ → Call → Reply → Type 0
NoteStep old new caller asked reply = ((begins asked reply ≡ false) × AreLeft old new) ⊎ IsBegun old new caller asked reply

module _ (old new : State) (caller : List ℕ) (reply : Reply) where
  left : (after : State) → AreLeft old after → new ≡ after → AreLeft old new
  left after is e = subst (AreLeft old) (sym e) is

  goes_left : {A : Type 0} (looked : Looked A) (D : A → Type 0) → ((on : A) → D on → AreLeft old new) → Goes old reply new looked D → AreLeft old new
  goes_left (Ok on) D row p = row on p
  goes_left (Err r) D row p = left old (refl, refl) p.1

  creates_left : (looked : Looked ℕ) (IsContent : _ → Type 0) → Creates old reply new looked IsContent → AreLeft old new
  creates_left (Err r) IsContent p = left old (refl, refl) p.1
  creates_left (Ok device) IsContent (inr p) = left old (refl, refl) p.1.1
  creates_left (Ok device) IsContent (inl p) = left _ (refl, refl) p.after

  wish_left : (place : Option ℕ) → MatchOption place ⊥ (λ found. Tells old reply new (Holds (Some found))) → AreLeft old new
  wish_left None p = absurd p
  wish_left (Some found) p = left old (refl, refl) p.1

  -- ---- jobs

  refused_job : (asked : Call) (r : Refusal) → is_of_job (Err r) ≡ false → IsRefused old reply new r → NoteStep old new caller asked reply
  refused_job asked r plain p = inl (by_job (is_job asked), left old (refl, refl) p.1) where
    by_job : (b : Bool) → (if b then is_of_job reply else false) ≡ false
    by_job true = ap is_of_job p.0 ∙ plain
    by_job false = refl

  goes_job : {A : Type 0} (asked : Call) (looked : Looked A) (D : A → Type 0) → IsPlainLook looked → ((on : A) → looked ≡ Ok on → D on → NoteStep old new caller asked reply) → Goes old reply new looked D → NoteStep old new caller asked reply
  goes_job asked (Ok on) D plain row p = row on refl p
  goes_job asked (Err r) D plain row p = refused_job asked r plain p

  decoded_left : (target : Found VideoSurface) (picture : Picture) (o : Outcome) → AreLeft old (decoded old target picture o)
  decoded_left target picture outcome.Ok = (refl, refl)
  decoded_left target picture (outcome.Bitstream slice) = (refl, refl)
  decoded_left target picture (outcome.Incomplete macroblocks) = (refl, refl)

  noted : (asked : Call) (place : ℕ) (object : Object) (before : State) (o : Outcome) → is_job asked ≡ true → slice_get old.objects place ≡ Some object → target_name asked ≡ Some object.name → AreLeft old before
      → reply ≡ reply_of o → new ≡ with_note before caller place o → NoteStep old new caller asked reply
  noted asked place object before o job stands has_name is tells after = inr (record {
    job = job;
    target = place;
    object = object;
    stands = stands;
    has_name = has_name;
    outcome = o;
    tells = tells;
    notes = ap (λ (u : State). u.notes) after ∙ (λ i. (with_note (record old { notes = is.0 i; items = is.1 i }) caller place o).notes);
    items = ap (λ (u : State). u.items) after ∙ is.1;
  })

  render_begun : (decoder target : ℕ) (info : PictureInfo) (bytes : List ℕ) (on : Rendering) → named old as_video target ≡ Some on.target → Counts old reply new caller info bytes on → NoteStep old new caller (call.Render decoder target info bytes) reply
  render_begun decoder target info bytes on e p =
      let is = named-Some as_video target old on.target e in
      goes_job (call.Render decoder target info bytes) (units_counted info (length p.payloads)) (λ nothing. Decodes old reply new caller info p.payloads on)
      (refused_if_plain (not (length p.payloads == info.slice_count)) (SliceCount (length p.payloads)) refl) (λ nothing h d.
      noted (call.Render decoder target info bytes) on.target.place is.0 (decoded old on.target d.picture d.outcome) d.outcome refl is.1 (ap (λ n. Some n) (sym is.2.has_name)) (decoded_left on.target d.picture d.outcome) d.tells d.after) p.goes

  mix_begun : (mixer structure video output : ℕ) (on : Mixing) → named old as_output output ≡ Some on.output → Mixes old reply new caller on → NoteStep old new caller (call.Mix mixer structure video output) reply
  mix_begun mixer structure video output on e p =
      let is = named-Some as_output output old on.output e in
      noted (call.Mix mixer structure video output) on.output.place is.0 (surfaces.with_bytes old on.output p.bytes) outcome.Ok refl is.1 (ap (λ n. Some n) (sym is.2.has_name)) (refl, refl) p.leaves.0 p.leaves.1

  -- ---- the calls

  does_notes : (asked : Call) → Does old caller asked reply new → NoteStep old new caller asked reply
  does_notes call.DeviceCreate p = inl (refl, creates_left (device_create old) _ p)
  does_notes (call.DeviceDestroy device) p = inl (refl, goes_left (clock.device_destroy old device) _ (λ on a. left _ (refl, refl) a.1) p)
  does_notes (call.VideoCreate device chroma width height) p = inl (refl, creates_left (video_create old device chroma width height) _ p)
  does_notes (call.VideoParameters surface) p = inl (refl, goes_left (surfaces.video old surface) _ (λ on a. left old (refl, refl) a.1) p)
  does_notes (call.VideoGetBits surface format count) p = inl (refl, goes_left (surfaces.video_bits old surface format count) _ (λ on a. left old (refl, refl) a.1.1) p)
  does_notes (call.VideoPutBits surface format bytes) p = inl (refl, goes_left (surfaces.video_bits old surface format (length bytes)) _ (λ on a. left _ (refl, refl) a.1.3.1) p)
  does_notes (call.VideoDestroy surface) p = inl (refl, goes_left (surfaces.video old surface) _ (λ on a. left _ (refl, refl) a.1) p)
  does_notes (call.OutputCreate device format width height) p = inl (refl, creates_left (output_create old device format width height) _ p)
  does_notes (call.OutputGetBits surface count) p = inl (refl, goes_left (surfaces.output_bits old surface count) _ (λ on a. left old (refl, refl) a.1.1) p)
  does_notes (call.OutputPutBits surface bytes) p = inl (refl, goes_left (surfaces.output_bits old surface (length bytes)) _ (λ on a. left _ (refl, refl) a.1.1) p)
  does_notes (call.OutputDestroy surface) p = inl (refl, goes_left (surfaces.output old surface) _ (λ on a. left _ (refl, refl) a.1) p)
  does_notes (call.DecoderQuery device profile) p = inl (refl, goes_left (first_handle old (named old as_device device)) _ (λ on a. left old (refl, refl) a.1) p)
  does_notes (call.DecoderCreate device profile width height max_references) p = inl (refl, creates_left (decoder_create old device profile width height max_references) _ p)
  does_notes (call.DecoderDestroy decoder) p = inl (refl, goes_left (surfaces.decoder old decoder) _ (λ on a. left _ (refl, refl) a.1) p)
  does_notes (call.MixerCreate device width height) p = inl (refl, creates_left (mixer_create old device width height) _ p)
  does_notes (call.MixerSetMatrix mixer matrix) p = inl (refl, goes_left (surfaces.mixer old mixer) _ (λ on a. left _ (refl, refl) a.1) p)
  does_notes (call.MixerDestroy mixer) p = inl (refl, goes_left (surfaces.mixer old mixer) _ (λ on a. left _ (refl, refl) a.1) p)
  does_notes (call.QueueCreate device window) p = inl (refl, creates_left (queue_create old device) _ p)
  does_notes (call.QueueDestroy queue) p = inl (refl, goes_left (queues.queue old queue) _ (λ on a. left _ (refl, refl) a.1) p)
  does_notes (call.QueueDisplay queue surface earliest) p = inl (refl, goes_left (queues.queue_display old queue surface earliest) _ (λ on a. left _ (refl, refl) a.1) p)
  does_notes (call.QueryStatus queue surface) p = inl (refl, goes_left (queues.presented old queue surface) _ (λ on a. left old (refl, refl) a.1) p)
  does_notes (call.BlockUntilIdle queue surface) p = inl (refl, goes_left (queues.presented old queue surface) _ (λ on a. left old (refl, refl) a.1.1) p)
  does_notes (call.GetTime queue) p = inl (refl, goes_left (queues.queue old queue) _ (λ on a. left old (refl, refl) a.1) p)
  does_notes (call.Promise queue time) p = inl (refl, goes_left (queues.queue old queue) _ (λ on a. left _ (refl, refl) a.1) p)
  does_notes (call.Advance device time) p = inl (refl, goes_left (clock.advance old device time) _ (λ on a. left _ (refl, refl) a.2) p)
  does_notes (call.Preempt device) p = inl (refl, goes_left (clock.device old device) _ (λ on a. left _ (refl, refl) a.1) p)
  does_notes (call.Poll wishes) p = inl (refl, goes_left (first_wish old wishes) _ (λ on a. left old (refl, refl) a.1) p)
  does_notes (call.WaitUntil wishes) p = inl (refl, goes_left (first_wish old wishes) _ (λ on a. wish_left on a) p)
  does_notes call.Kept p = inl (refl, left old (refl, refl) p.1)
  does_notes (call.Render decoder target info bytes) p =
      goes_job (call.Render decoder target info bytes) (render old decoder target info) (Counts old reply new caller info bytes) (render_plain old decoder target info)
      (λ on h a. render_begun decoder target info bytes on (render_named old decoder target info on h).1 a) p
  does_notes (call.Mix mixer structure video output) p =
      goes_job (call.Mix mixer structure video output) (mix old mixer structure video output) (Mixes old reply new caller) (mix_plain old mixer structure video output)
      (λ on h a. mix_begun mixer structure video output on (mix_named old mixer structure video output on h).1 a) p

  pub step_notes : (asked : Call) → Step old caller asked reply new → NoteStep old new caller asked reply
  step_notes asked (inl lacks) = refused_job asked OutOfMemory refl lacks.1
  step_notes asked (inr does) = does_notes asked does
