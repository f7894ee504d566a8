-- Only a create can find the table full, and it does so only where there is no room.
use Rattle.std.proofs.Common.{◌≡◌, inl, inr, ◌<◌, ℕ, ◌+◌, ◌==◌, nat_le, nat_lt, Bool, true, false, not, ◌&&◌, ◌||◌, if◌then◌else◌, List, [], ◌∷◌, length, Option, Some, None, Ok, Err, MatchOption, refl, ap, sym, ◌∙◌, arith}
use Rattle.std.proofs.lemmas.Bool.{false≢true, ne_eqb}
use Rattle.std.specs.List.{position}
use Rattle.std.specs.Option.{ok_or}
use Rattle.cb_types.specs.AcceptedInfo.{accepted_fields}
use Rattle.cb_types.specs.References.{is_absent, is_unused}
use Rattle.cb_types.specs.declared.picture_info.PictureInfo.{PictureInfo}
use Rattle.cb_types.specs.declared.picture_info.Reference.{Reference}
use Rattle.decoder_render.specs.declared.outcome.Outcome.{Outcome}
use Rattle.decoder_render.specs.declared.outcome.Outcome.TheVariants as outcome
use Rattle.present_queue.specs.Queue.{Queue, answer_to_display}
use Rattle.vd_status.specs.declared.refusal.Refusal.{Refusal}
use Rattle.vd_status.specs.declared.refusal.Refusal.TheVariants as refusal
use Rattle.driver_model.specs.Answers.{Goes, Reply, Tells}
use Rattle.driver_model.specs.Clock as clock
use Rattle.driver_model.specs.Creates.{Creates, decoder_create, device_create, handles_full, is_full, live_devices, live_objects, live_queues, mixer_create, output_create, queue_create, room, video_create}
use Rattle.driver_model.specs.Jobs.{reply_of}
use Rattle.driver_model.specs.Mixes.{Mixes, Mixing, mix}
use Rattle.driver_model.specs.Objects.{Content, Decoder, Device, as_decoder, as_device, as_mixer, as_output, as_queue, as_video}
use Rattle.driver_model.specs.Parts.{is_out_of_handles}
use Rattle.driver_model.specs.Queues as queues
use Rattle.driver_model.specs.Refusals.{Looked, ◌>>=◌, ◌>>◌, first_handle, further_handle, in_use, refused_if}
use Rattle.driver_model.specs.Renders.{Counts, Decodes, Rendering, info_taken, is_of_other_size, is_own_reference, reference, references, render, rendering, units_counted}
use Rattle.driver_model.specs.Sizes.{is_profile, is_rgba_format, is_same_size, is_within_limits, is_ycbcr_format, pixel_bytes, sample_bytes, size_for, size_of_sides}
use Rattle.driver_model.specs.States.{State, Found, is_preempted, named}
use Rattle.driver_model.specs.Steps.{Does}
use Rattle.driver_model.specs.Surfaces as surfaces
use Rattle.driver_model.specs.Wishes.{first_wish, first_wish_from, wish_holds}
use Rattle.driver_model.specs.declared.calls.Call.{Call}
use Rattle.driver_model.specs.declared.calls.Call.TheVariants as call
use Rattle.driver_model.specs.declared.calls.Wish.{Wish}
use Rattle.driver_model.specs.declared.calls.Wish.TheVariants as wish
use Rattle.driver_model.specs.declared.numbers.TheConstants.{CHROMA_420, FRAME, MANY_NAMES, MAX_DEVICES, MAX_OBJECTS, MAX_QUEUES, MAX_REFERENCES}
use Rattle.driver_model.specs.declared.replies.Answer.TheVariants.{Holds}
use Rattle.player_laws.specs.Room.{CreatesFindRoom}

-- ---- looks

-- the look isn't refused for want of room
abbrev Roomy : {A : Type 0} → Looked A → Type 0
Roomy (Ok found) = Unit {0}
Roomy (Err refusal) = let reply : Reply = Err refusal in is_out_of_handles reply ≡ false

next : {A B : Type 0} (m : Looked A) (later : A → Looked B) → Roomy m → ((a : A) → Roomy (later a)) → Roomy (m >>= later)
next (Ok found) later is all = all found
next (Err refusal) later is all = is

behind : {B : Type 0} (m : Looked (Unit {0})) (later : Looked B) → Roomy m → Roomy later → Roomy (m >> later)
behind (Ok nothing) later is all = all
behind (Err refusal) later is all = is

-- another refusal
abbrev Other : Refusal → Type 0
Other refusal = let reply : Reply = Err refusal in is_out_of_handles reply ≡ false

guard : (test : Bool) (refusal : Refusal) → Other refusal → Roomy (refused_if test refusal)
guard true refusal is = is
guard false refusal is = tt

handle : {T : Type 0} (s : State) (arg : ℕ) (found : Option (Found T)) → Roomy (in_use s arg found)
handle s arg None = refl
handle s arg (Some found) = by_test (is_preempted s found.device) where
  by_test : (b : Bool) → Roomy (if b then Err refusal.Preempted else Ok found)
  by_test true = refl
  by_test false = tt

further : {T : Type 0} (arg device : ℕ) (found : Option (Found T)) → Roomy (further_handle arg device found)
further arg device None = refl
further arg device (Some found) = by_test (found.device == device) where
  by_test : (b : Bool) → Roomy (if b then Ok found else Err (refusal.DeviceMismatch arg))
  by_test true = tt
  by_test false = refl

sized : (width height : ℕ) → Roomy (size_for width height)
sized width height = by_test (is_within_limits (size_of_sides width height)) where
  by_test : (b : Bool) → Roomy (if b then Ok (size_of_sides width height) else Err refusal.BadSize)
  by_test true = tt
  by_test false = refl

refuse : {B : Type 0} (test : Bool) (refusal : Refusal) (later : Looked B) → Other refusal → Roomy later → Roomy (refused_if test refusal >> later)
refuse true refusal later is all = is
refuse false refusal later is all = all

module _ (s : State) where
  presented : (queue surface : ℕ) → Roomy (queues.presented s queue surface)
  presented queue surface =
      next (first_handle s (named s as_queue queue)) _ (handle s 0 (named s as_queue queue)) (λ on. next (further_handle 1 on.device (named s as_output surface)) _ (further 1 on.device (named s as_output surface)) (λ of. tt))

  shown : (of : Queue ℕ) (earliest : ℕ) → Roomy (answer_to_display of earliest)
  shown of earliest = by_tests (length of.entries == 64) (nat_lt earliest of.promise) where
    by_tests : (a b : Bool) → (let m : Looked (Unit {0}) = if a then Err refusal.QueueFull else if b then Err (refusal.EarlierThanPromise of.promise) else Ok tt in Roomy m)
    by_tests true b = refl
    by_tests false true = refl
    by_tests false false = tt

  displayed : (queue surface earliest : ℕ) → Roomy (queues.queue_display s queue surface earliest)
  displayed queue surface earliest = next (queues.presented s queue surface) _ (presented queue surface) (λ on. behind (answer_to_display on.queue.value.queue earliest) (Ok on) (shown on.queue.value.queue earliest) tt)

  video_bits : (surface format count : ℕ) → Roomy (surfaces.video_bits s surface format count)
  video_bits surface format count =
      next (first_handle s (named s as_video surface)) _ (handle s 0 (named s as_video surface)) (λ on.
      refuse (not (is_ycbcr_format format)) refusal.BadYCbCr (refused_if (not (count == sample_bytes on.value.size)) refusal.BadSize >> Ok on) refl (refuse (not (count == sample_bytes on.value.size)) refusal.BadSize (Ok on) refl tt))

  output_bits : (surface count : ℕ) → Roomy (surfaces.output_bits s surface count)
  output_bits surface count = next (first_handle s (named s as_output surface)) _ (handle s 0 (named s as_output surface)) (λ on. refuse (not (count == pixel_bytes on.value.size)) refusal.BadSize (Ok on) refl tt)

  ended : (device : ℕ) → Roomy (clock.device_destroy s device)
  ended device = by_found (named s as_device device) where
    by_found : (found : Option (Found Device)) → Roomy (ok_or found (refusal.InvalidHandle 0))
    by_found None = refl
    by_found (Some found) = tt

  advanced : (device time : ℕ) → Roomy (clock.advance s device time)
  advanced device time = next (first_handle s (named s as_device device)) _ (handle s 0 (named s as_device device)) (λ on. refuse (nat_le time on.value.time) (refusal.TimeNotAfter on.value.time) (Ok on) refl tt)

  one_reference : (device arg : ℕ) (entry : Reference) → Roomy (reference s device arg entry)
  one_reference device arg entry = by_test (is_unused entry || is_absent entry) where
    by_test : (b : Bool) → Roomy (if b then Ok None else (further_handle arg device (named s as_video entry.surface) >>= λ on. Ok (Some on)))
    by_test true = tt
    by_test false = next (further_handle arg device (named s as_video entry.surface)) (λ on. Ok (Some on)) (further arg device (named s as_video entry.surface)) (λ on. tt)

  all_references : (device arg : ℕ) (entries : List Reference) → Roomy (references s device arg entries)
  unfolding references
  all_references device arg [] = tt
  all_references device arg (entry ∷ later) =
      let rest = all_references device (arg + 1) later in
      next (reference s device arg entry) (λ found. references s device (arg + 1) later >>= λ others. Ok (found ∷ others)) (one_reference device arg entry) (λ found. next (references s device (arg + 1) later) (λ others. Ok (found ∷ others)) rest (λ others. tt))

  taken : (of : Decoder) (info : PictureInfo) → Roomy (info_taken of info)
  taken of info = by_field (position not (accepted_fields of.profile of.max_references info)) where
    by_field : (field : Option ℕ) → Roomy (elim field as (λ f. Looked (Unit {0})) [ None ↦ Ok tt | Some n ↦ Err (refusal.BadInfo n) ])
    by_field None = tt
    by_field (Some n) = refl

  looked_at : (decoder target : ℕ) (entries : List Reference) → Roomy (rendering s decoder target entries)
  looked_at decoder target entries =
      next (first_handle s (named s as_decoder decoder)) _ (handle s 0 (named s as_decoder decoder)) (λ on. next (further_handle 1 on.device (named s as_video target)) _ (further 1 on.device (named s as_video target)) (λ of.
      next (references s on.device 2 entries) _ (all_references on.device 2 entries) (λ found. tt)))

  rendered : (decoder target : ℕ) (info : PictureInfo) → Roomy (render s decoder target info)
  rendered decoder target info =
      next (rendering s decoder target info.references) _ (looked_at decoder target info.references) (λ on.
      let last : Looked Rendering = info_taken on.decoder.value info >> Ok on in
      refuse (is_own_reference on) refusal.TargetIsReference (refused_if (is_of_other_size on) refusal.BadSize >> last) refl
      (refuse (is_of_other_size on) refusal.BadSize last refl (behind (info_taken on.decoder.value info) (Ok on) (taken on.decoder.value info) tt)))

  mixed : (mixer structure video output : ℕ) → Roomy (mix s mixer structure video output)
  mixed mixer structure video output =
      next (first_handle s (named s as_mixer mixer)) _ (handle s 0 (named s as_mixer mixer)) (λ on. next (further_handle 1 on.device (named s as_video video)) _ (further 1 on.device (named s as_video video)) (λ v.
      next (further_handle 2 on.device (named s as_output output)) _ (further 2 on.device (named s as_output output)) (λ o.
      let found : Mixing = record { mixer = on; video = v; output = o } in
      let other : Bool = not (is_same_size on.value.size v.value.size && is_same_size on.value.size o.value.size) in
      refuse (not (structure == FRAME)) refusal.BadStructure (refused_if other refusal.BadSize >> Ok found) refl (refuse other refusal.BadSize (Ok found) refl tt))))

  one_wish : (arg : ℕ) (one : Wish) → Roomy (wish_holds s arg one)
  one_wish arg (wish.OutputIdle surface) = next (in_use s arg (named s as_output surface)) _ (handle s arg (named s as_output surface)) (λ on. tt)
  one_wish arg (wish.VideoHome surface) = next (in_use s arg (named s as_video surface)) _ (handle s arg (named s as_video surface)) (λ on. tt)
  one_wish arg (wish.OutputHome surface) = next (in_use s arg (named s as_output surface)) _ (handle s arg (named s as_output surface)) (λ on. tt)
  one_wish arg (wish.PromisePast queue time) = next (in_use s arg (named s as_queue queue)) _ (handle s arg (named s as_queue queue)) (λ on. tt)

  wishes_from : (arg : ℕ) (wishes : List Wish) → Roomy (first_wish_from s arg wishes)
  unfolding first_wish_from
  wishes_from arg [] = tt
  wishes_from arg (one ∷ later) = let rest = wishes_from (arg + 1) later in next (wish_holds s arg one) (λ holds. if holds then Ok (Some arg) else first_wish_from s (arg + 1) later) (one_wish arg one) (λ holds. by_test holds rest) where
    by_test : (b : Bool) → Roomy (first_wish_from s (arg + 1) later) → Roomy (if b then Ok (Some arg) else first_wish_from s (arg + 1) later)
    by_test true rest = tt
    by_test false rest = rest

  -- ---- creates

  module _ (few : live_objects s < MAX_OBJECTS) where
    free : (b : Bool) → b ≡ false → Roomy (room s b)
    free b is = by_test (is_full s || b) (not_full b is) where
      not_full : (c : Bool) → c ≡ false → (is_full s || c) ≡ false
      not_full c e = let f : is_full s ≡ false = ne_eqb (live_objects s) MAX_OBJECTS (λ same. omega (arith, same, few)) in (λ i. f i || c) ∙ e

      by_test : (t : Bool) → t ≡ false → Roomy (refused_if t (handles_full s))
      by_test true e = absurd (false≢true (sym e))
      by_test false e = tt

    place : (b : Bool) (n : ℕ) → b ≡ false → Roomy (room s b >> Ok n)
    place b n is = behind (room s b) (Ok n) (free b is) tt

    on_device : (device : ℕ) (later : Found Device → Looked ℕ) → ((on : Found Device) → Roomy (later on)) → Roomy (first_handle s (named s as_device device) >>= later)
    on_device device later all = next (first_handle s (named s as_device device)) later (handle s 0 (named s as_device device)) all

    of_size : (width height : ℕ) (later : Looked ℕ) → Roomy later → Roomy (size_for width height >>= λ size. later)
    of_size width height later is = next (size_for width height) (λ size. later) (sized width height) (λ size. is)

    new_device : live_devices s < MAX_DEVICES → Roomy (device_create s)
    new_device less = place (live_devices s == MAX_DEVICES) (length s.objects) (ne_eqb (live_devices s) MAX_DEVICES (λ same. omega (arith, same, less)))

    new_video : (device chroma width height : ℕ) → Roomy (video_create s device chroma width height)
    new_video device chroma width height =
        on_device device _ (λ on. refuse (not (chroma == CHROMA_420)) refusal.BadChroma (size_for width height >>= λ size. room s false >> Ok on.place) refl (of_size width height (room s false >> Ok on.place) (place false on.place refl)))

    new_output : (device format width height : ℕ) → Roomy (output_create s device format width height)
    new_output device format width height =
        on_device device _ (λ on. refuse (not (is_rgba_format format)) refusal.BadRgba (size_for width height >>= λ size. room s false >> Ok on.place) refl (of_size width height (room s false >> Ok on.place) (place false on.place refl)))

    new_decoder : (device profile width height max_references : ℕ) → Roomy (decoder_create s device profile width height max_references)
    new_decoder device profile width height max_references =
        on_device device _ (λ on.
        let last : Looked ℕ = refused_if (nat_lt MAX_REFERENCES max_references) (refusal.BadInfo 0) >> (room s false >> Ok on.place) in
        refuse (not (is_profile profile)) refusal.BadProfile (size_for width height >>= λ size. last) refl
        (of_size width height last (refuse (nat_lt MAX_REFERENCES max_references) (refusal.BadInfo 0) (room s false >> Ok on.place) refl (place false on.place refl))))

    new_mixer : (device width height : ℕ) → Roomy (mixer_create s device width height)
    new_mixer device width height = on_device device _ (λ on. of_size width height (room s false >> Ok on.place) (place false on.place refl))

    new_queue : (device : ℕ) → live_queues s < MAX_QUEUES → Roomy (queue_create s device)
    new_queue device less = on_device device _ (λ on. place (live_queues s == MAX_QUEUES) on.place (ne_eqb (live_queues s) MAX_QUEUES (λ same. omega (arith, same, less))))

-- ---- replies

module _ (old new : State) (caller : List ℕ) (reply : Reply) where
  ok : (a : _) → reply ≡ Ok a → is_out_of_handles reply ≡ false
  ok a e = ap is_out_of_handles e

  goes : {A : Type 0} (looked : Looked A) (D : A → Type 0) → Roomy looked → ((on : A) → D on → is_out_of_handles reply ≡ false) → Goes old reply new looked D → is_out_of_handles reply ≡ false
  goes (Ok on) D roomy row p = row on p
  goes (Err r) D roomy row p = ap is_out_of_handles p.0 ∙ roomy

  makes : (looked : Looked ℕ) (IsContent : Content → Type 0) → Roomy looked → length old.objects < MANY_NAMES → Creates old reply new looked IsContent → is_out_of_handles reply ≡ false
  makes (Err r) IsContent roomy few p = ap is_out_of_handles p.0 ∙ roomy
  makes (Ok device) IsContent roomy few (inr p) = let many = p.0 in absurd (omega (arith, many, few))
  makes (Ok device) IsContent roomy few (inl p) = ok _ p.tells

  job : (o : Outcome) → reply ≡ reply_of o → is_out_of_handles reply ≡ false
  job outcome.Ok e = ap is_out_of_handles e
  job (outcome.Bitstream slice) e = ap is_out_of_handles e
  job (outcome.Incomplete macroblocks) e = ap is_out_of_handles e

  waited : (place : Option ℕ) → MatchOption place ⊥ (λ found. Tells old reply new (Holds (Some found))) → is_out_of_handles reply ≡ false
  waited None p = absurd p
  waited (Some found) p = ok _ p.0

  module _ (few : live_objects old < MAX_OBJECTS) (queues_few : live_queues old < MAX_QUEUES) (names_few : length old.objects < MANY_NAMES) where
    does : (asked : Call) → (asked ≡ call.DeviceCreate → live_devices old < MAX_DEVICES) → Does old caller asked reply new → is_out_of_handles reply ≡ false
    does call.DeviceCreate devices p = makes (device_create old) _ (new_device old few (devices refl)) names_few p
    does (call.DeviceDestroy device) devices p = goes (clock.device_destroy old device) _ (ended old device) (λ on a. ok _ a.0) p
    does (call.VideoCreate device chroma width height) devices p = makes (video_create old device chroma width height) _ (new_video old few device chroma width height) names_few p
    does (call.VideoParameters surface) devices p = goes (surfaces.video old surface) _ (handle old 0 (named old as_video surface)) (λ on a. ok _ a.0) p
    does (call.VideoGetBits surface format count) devices p = goes (surfaces.video_bits old surface format count) _ (video_bits old surface format count) (λ on a. ok _ a.1.0) p
    does (call.VideoPutBits surface format bytes) devices p = goes (surfaces.video_bits old surface format (length bytes)) _ (video_bits old surface format (length bytes)) (λ on a. ok _ a.1.3.0) p
    does (call.VideoDestroy surface) devices p = goes (surfaces.video old surface) _ (handle old 0 (named old as_video surface)) (λ on a. ok _ a.0) p
    does (call.OutputCreate device format width height) devices p = makes (output_create old device format width height) _ (new_output old few device format width height) names_few p
    does (call.OutputGetBits surface count) devices p = goes (surfaces.output_bits old surface count) _ (output_bits old surface count) (λ on a. ok _ a.1.0) p
    does (call.OutputPutBits surface bytes) devices p = goes (surfaces.output_bits old surface (length bytes)) _ (output_bits old surface (length bytes)) (λ on a. ok _ a.1.0) p
    does (call.OutputDestroy surface) devices p = goes (surfaces.output old surface) _ (handle old 0 (named old as_output surface)) (λ on a. ok _ a.0) p
    does (call.DecoderQuery device profile) devices p = goes (first_handle old (named old as_device device)) _ (handle old 0 (named old as_device device)) (λ on a. ok _ a.0) p
    does (call.DecoderCreate device profile width height max_references) devices p =
        makes (decoder_create old device profile width height max_references) _ (new_decoder old few device profile width height max_references) names_few p
    does (call.DecoderDestroy decoder) devices p = goes (surfaces.decoder old decoder) _ (handle old 0 (named old as_decoder decoder)) (λ on a. ok _ a.0) p
    does (call.MixerCreate device width height) devices p = makes (mixer_create old device width height) _ (new_mixer old few device width height) names_few p
    does (call.MixerSetMatrix mixer matrix) devices p = goes (surfaces.mixer old mixer) _ (handle old 0 (named old as_mixer mixer)) (λ on a. ok _ a.0) p
    does (call.MixerDestroy mixer) devices p = goes (surfaces.mixer old mixer) _ (handle old 0 (named old as_mixer mixer)) (λ on a. ok _ a.0) p
    does (call.QueueCreate device window) devices p = makes (queue_create old device) _ (new_queue old few device queues_few) names_few p
    does (call.QueueDestroy queue) devices p = goes (queues.queue old queue) _ (handle old 0 (named old as_queue queue)) (λ on a. ok _ a.0) p
    does (call.QueueDisplay queue surface earliest) devices p = goes (queues.queue_display old queue surface earliest) _ (displayed old queue surface earliest) (λ on a. ok _ a.0) p
    does (call.QueryStatus queue surface) devices p = goes (queues.presented old queue surface) _ (presented old queue surface) (λ on a. ok _ a.0) p
    does (call.BlockUntilIdle queue surface) devices p = goes (queues.presented old queue surface) _ (presented old queue surface) (λ on a. ok _ a.1.0) p
    does (call.GetTime queue) devices p = goes (queues.queue old queue) _ (handle old 0 (named old as_queue queue)) (λ on a. ok _ a.0) p
    does (call.Promise queue time) devices p = goes (queues.queue old queue) _ (handle old 0 (named old as_queue queue)) (λ on a. ok _ a.0) p
    does (call.Advance device time) devices p = goes (clock.advance old device time) _ (advanced old device time) (λ on a. ok _ a.1) p
    does (call.Preempt device) devices p = goes (clock.device old device) _ (handle old 0 (named old as_device device)) (λ on a. ok _ a.0) p
    does (call.Poll wishes) devices p = goes (first_wish old wishes) _ (wishes_from old 0 wishes) (λ on a. ok _ a.0) p
    does (call.WaitUntil wishes) devices p = goes (first_wish old wishes) _ (wishes_from old 0 wishes) (λ on a. waited on a) p
    does call.Kept devices p = ok _ p.0
    does (call.Render decoder target info bytes) devices p =
        goes (render old decoder target info) (Counts old reply new caller info bytes) (rendered old decoder target info)
        (λ on a. goes (units_counted info (length a.payloads)) (λ nothing. Decodes old reply new caller info a.payloads on) (guard _ (refusal.SliceCount (length a.payloads)) refl) (λ nothing d. job d.outcome d.tells) a.goes) p
    does (call.Mix mixer structure video output) devices p = goes (mix old mixer structure video output) (Mixes old reply new caller) (mixed old mixer structure video output) (λ on a. ok _ a.leaves.0) p

pub creates_find_room : CreatesFindRoom
creates_find_room old new caller asked reply (inl lacks) few devices queues_few names_few = ap is_out_of_handles lacks.1.0
creates_find_room old new caller asked reply (inr is) few devices queues_few names_few = does old new caller reply few queues_few names_few asked devices is
