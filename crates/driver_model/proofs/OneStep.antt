-- What one step does to the objects' names and sizes, and what a refusal leaves.
use Rattle.std.proofs.Common.{◌≡◌, ◌⊎◌, inl, inr, ℕ, nat_lt, Bool, true, false, not, ◌==◌, ◌&&◌, if◌then◌else◌, List, ◌++◌, length, map, Option, Some, None, Ok, Err, MatchOption, refl, ap, sym, ◌∙◌, subst}
use Rattle.std.proofs.lemmas.Bool.{leb-true}
use Rattle.std.proofs.lemmas.List.{append-nil}
use Rattle.std.specs.Option.{option_to_list}
use Rattle.cb_types.specs.SizeMbs.{IsWithinLimits, macroblocks}
use Rattle.cb_types.specs.declared.size.SizeMbs.{SizeMbs}
use Rattle.cb_types.specs.declared.picture_info.PictureInfo.{PictureInfo}
use Rattle.decoder_render.specs.declared.outcome.Outcome.{Outcome}
use Rattle.decoder_render.specs.declared.outcome.Outcome.TheVariants as outcome
use Rattle.vd_plane.specs.declared.picture.Picture.{Picture}
use Rattle.vd_status.specs.declared.refusal.Refusal.{Refusal}
use Rattle.vd_status.specs.declared.refusal.Refusal.TheVariants.{BadChroma, BadInfo, BadProfile, BadRgba, BadSize, Bitstream, Incomplete}
use Rattle.driver_model.specs.Answers.{Goes, IsRefused, Leaves, Reply, Tells}
use Rattle.driver_model.specs.Clock as clock
use Rattle.driver_model.specs.Creates.{Creates, IsNewVideo, Makes, MayBeFull, handles_full, new_device, new_output, new_decoder, new_mixer, new_queue, device_create, video_create, output_create, decoder_create, mixer_create, queue_create, room}
use Rattle.driver_model.specs.Jobs.{reply_of}
use Rattle.driver_model.specs.Laws.{HasSize, HasSizes, is_of_bitstream}
use Rattle.driver_model.specs.Mixes.{Mixes, Mixing, mix}
use Rattle.driver_model.specs.Objects.{Content, Device, DeviceObject, VideoSurface, Object, as_device, as_mixer, as_output, as_video}
use Rattle.driver_model.specs.Parts.{name_given}
use Rattle.driver_model.specs.Queues as queues
use Rattle.driver_model.specs.Refusals.{Looked, ◌>>=◌, ◌>>◌, first_handle, refused_if}
use Rattle.driver_model.specs.Renders.{Counts, Decodes, Rendering, decoded, render, units_counted}
use Rattle.driver_model.specs.Sizes.{is_profile, is_rgba_format, is_within_limits, size_for, size_of_sides}
use Rattle.driver_model.specs.States.{State, Found, destroyed, destroyed_with, is_given, named, with_content, with_note}
use Rattle.driver_model.specs.Steps.{Does}
use Rattle.driver_model.specs.Surfaces as surfaces
use Rattle.driver_model.specs.Wishes.{first_wish}
use Rattle.driver_model.specs.declared.calls.Call.{Call}
use Rattle.driver_model.specs.declared.calls.Call.TheVariants as call
use Rattle.driver_model.specs.declared.replies.Answer.{Answer}
use Rattle.driver_model.specs.declared.replies.Answer.TheVariants.{Done, Holds, Name}
use Rattle.driver_model.specs.declared.numbers.TheConstants.{CHROMA_420, MAX_REFERENCES}
use Rattle.driver_model.proofs.Changes.{Sizes-all_shown, Sizes-append, Sizes-changed, Sizes-destroyed, names, names-all_shown, names-append, names-changed, names-destroyed}
use Rattle.driver_model.proofs.Looks.{err_not_ok, then_ok, unless_ok}
use Rattle.driver_model.proofs.SameReplies.{err_one, ok_not_err}
use Rattle.driver_model.proofs.FoundSizes.{mixer_size, output_size, video_size}
use Rattle.driver_model.proofs.SoundJobs.{mix_stands, render_stands}
use Rattle.driver_model.proofs.SoundLooks.{Stands, first_stands, output_bits_stands, video_bits_stands}

-- The reply's name, if it gives one, is the new last one; objects keep sizes within the limits; a refusal leaves the state, but
-- for one of a bitstream.
pub record OneStep (old new : State) (reply : Reply) : Type 0 where
  pub given : names new.objects ≡ names old.objects ++ option_to_list (name_given reply)
  pub sizes : HasSizes old → HasSizes new
  pub refused : (r : Refusal) → reply ≡ Err r → is_of_bitstream r ≡ false → new ≡ old
  pub fresh : (name : ℕ) → name_given reply ≡ Some name → is_given old name ≡ false

some_one : (a b : ℕ) → Some a ≡ Some b → a ≡ b
some_one a b h = cc

-- an answer that gives no name
abbrev pub GivesNone : Answer → Type 0
GivesNone x = name_given (Ok x) ≡ None

-- objects that keep names and sizes
pub record Keeps (old new : State) : Type 0 where
  pub same_names : names new.objects ≡ names old.objects
  pub same_sizes : HasSizes old → HasSizes new

keeps_all : (s : State) → Keeps s s
keeps_all s = record { same_names = refl; same_sizes = λ sizes. sizes }

keeps_content : (s : State) (place : ℕ) (content : Content) → (HasSizes s → HasSize content) → Keeps s (with_content s place content)
keeps_content s place content size = record {
  same_names = names-changed (λ object. record object { content = content }) (λ object. refl) place s.objects;
  same_sizes = λ sizes. Sizes-changed (λ object. record object { content = content }) (λ object old. size sizes) place s.objects sizes;
}

keeps_destroyed : (s : State) (place : ℕ) → Keeps s (destroyed s place)
keeps_destroyed s place = record {
  same_names = names-changed (λ object. record object { is_live = false }) (λ object. refl) place s.objects;
  same_sizes = Sizes-changed (λ object. record object { is_live = false }) (λ object size. size) place s.objects;
}

keeps_destroyed_with : (s : State) (place : ℕ) (content : Content) → HasSize content → Keeps s (destroyed_with s place content)
keeps_destroyed_with s place content size = record {
  same_names = names-changed (λ object. record object { is_live = false; content = content }) (λ object. refl) place s.objects;
  same_sizes = Sizes-changed (λ object. record object { is_live = false; content = content }) (λ object old. size) place s.objects;
}

and_parts : (a b : Bool) → (a && b) ≡ true → (a ≡ true) × (b ≡ true)
and_parts true b e = (refl, e)
and_parts false b e = let k : false ≡ true = e in absurd cc

-- a size that the creates take
pub limits_of : (size : SizeMbs) → is_within_limits size ≡ true → IsWithinLimits size
limits_of size h =
    let all = and_parts _ _ h in
    let sides = and_parts _ _ all.0 in
    let across = and_parts _ _ sides.0 in
    let down = and_parts _ _ sides.1 in
    record {
      some_column = leb-true 1 size.width across.0;
      columns = leb-true size.width _ across.1;
      some_row = leb-true 1 size.height down.0;
      rows = leb-true size.height _ down.1;
      count = leb-true (macroblocks size) _ all.1;
    }

size_for-Ok : (width height : ℕ) (size : SizeMbs) → size_for width height ≡ Ok size → IsWithinLimits (size_of_sides width height)
size_for-Ok width height size h = fits (is_within_limits (size_of_sides width height)) refl h where
  fits : (b : Bool) → is_within_limits (size_of_sides width height) ≡ b → (let m : Looked SizeMbs = if b then Ok (size_of_sides width height) else Err BadSize in m ≡ Ok size) → IsWithinLimits (size_of_sides width height)
  fits true e k = limits_of (size_of_sides width height) e
  fits false e k = absurd (err_not_ok BadSize size k)

module _ (s : State) (device profile width height max_references : ℕ) where
  -- what is looked at behind the size, behind the profile, and behind the device
  behind_size : ℕ → Looked ℕ
  behind_size on = do
    refused_if (nat_lt MAX_REFERENCES max_references) (BadInfo 0)
    room s false
    Ok on

  behind_profile : ℕ → Looked ℕ
  behind_profile on = size_for width height >>= (λ size. behind_size on)

  behind_device : Found Device → Looked ℕ
  behind_device on = refused_if (not (is_profile profile)) BadProfile >> behind_profile on.place

  created_size : (on : ℕ) → decoder_create s device profile width height max_references ≡ Ok on → IsWithinLimits (size_of_sides width height)
  unfolding behind_size behind_profile behind_device
  created_size on h =
      let first = then_ok (first_handle s (named s as_device device)) behind_device on h in
      let second = unless_ok (refused_if (not (is_profile profile)) BadProfile) (behind_profile first.0.place) on first.2 in
      let third = then_ok (size_for width height) (λ size. behind_size first.0.place) on second.1 in
      size_for-Ok width height third.0 third.1

module _ (s : State) (device : ℕ) (width height : ℕ) where
  -- what is looked at behind the size, and at the size
  behind_sides : ℕ → Looked ℕ
  behind_sides on = room s false >> Ok on

  at_sides : ℕ → Looked ℕ
  at_sides on = size_for width height >>= (λ size. behind_sides on)

  sides_size : (place on : ℕ) → at_sides place ≡ Ok on → IsWithinLimits (size_of_sides width height)
  unfolding at_sides
  sides_size place on h = let first = then_ok (size_for width height) (λ size. behind_sides place) on h in size_for-Ok width height first.0 first.1

  behind : Looked (Unit {0}) → Found Device → Looked ℕ
  behind look on = look >> at_sides on.place

  behind_size-of : (look : Looked (Unit {0})) (on : ℕ) → (first_handle s (named s as_device device) >>= behind look) ≡ Ok on → IsWithinLimits (size_of_sides width height)
  unfolding behind
  behind_size-of look on h =
      let first = then_ok (first_handle s (named s as_device device)) (behind look) on h in
      sides_size first.0.place on (unless_ok look (at_sides first.0.place) on first.2).1

  video_created : (chroma : ℕ) → (on : ℕ) → video_create s device chroma width height ≡ Ok on → IsWithinLimits (size_of_sides width height)
  unfolding behind behind_sides at_sides
  video_created chroma on h = behind_size-of (refused_if (not (chroma == CHROMA_420)) BadChroma) on h

  output_created : (format : ℕ) → (on : ℕ) → output_create s device format width height ≡ Ok on → IsWithinLimits (size_of_sides width height)
  unfolding behind behind_sides at_sides
  output_created format on h = behind_size-of (refused_if (not (is_rgba_format format)) BadRgba) on h

  mixer_created : (on : ℕ) → mixer_create s device width height ≡ Ok on → IsWithinLimits (size_of_sides width height)
  unfolding behind behind_sides at_sides
  mixer_created on h = behind_size-of (Ok tt) on h

module _ (old new : State) (caller : List ℕ) (reply : Reply) where
  no_more : (xs : List ℕ) → name_given reply ≡ None → xs ≡ xs ++ option_to_list (name_given reply)
  no_more xs none = sym (append-nil xs) ∙ ap (λ o. xs ++ option_to_list o) (sym none)

  none_fresh : name_given reply ≡ None → (name : ℕ) → name_given reply ≡ Some name → is_given old name ≡ false
  none_fresh none name some = absurd (let e : None ≡ Some name = sym none ∙ some in cc)

  -- the call is done, and gives no name
  done_one : (x : Answer) (s : State) → GivesNone x → Keeps old s → (reply ≡ Ok x) × (new ≡ s) → OneStep old new reply
  done_one x s none keeps p = record {
    given = ap (λ (t : State). names t.objects) p.1 ∙ (keeps.same_names ∙ no_more (names old.objects) (ap name_given p.0 ∙ none));
    sizes = λ sizes. subst HasSizes (sym p.1) (keeps.same_sizes sizes);
    refused = λ r e plain. absurd (ok_not_err x r (sym p.0 ∙ e));
    fresh = none_fresh (ap name_given p.0 ∙ none);
  }

  tells_one : (x : Answer) → GivesNone x → Tells old reply new x → OneStep old new reply
  tells_one x none p = done_one x old none (keeps_all old) p

  leaves_one : (s : State) → Keeps old s → Leaves old reply new s → OneStep old new reply
  leaves_one s keeps p = done_one Done s refl keeps p

  pub refused_one : (r : Refusal) → IsRefused old reply new r → OneStep old new reply
  refused_one r p = record {
    given = ap (λ (t : State). names t.objects) p.1 ∙ no_more (names old.objects) (ap name_given p.0);
    sizes = λ sizes. subst HasSizes (sym p.1) sizes;
    refused = λ a e plain. p.1;
    fresh = none_fresh (ap name_given p.0);
  }

  goes_one : {A : Type 0} (looked : Looked A) (D : A → Type 0) → ((on : A) → looked ≡ Ok on → D on → OneStep old new reply) → Goes old reply new looked D → OneStep old new reply
  goes_one (Ok on) D one p = one on refl p
  goes_one (Err r) D one p = refused_one r p

  -- ---- creates

  makes_one : (device : ℕ) (IsContent : Content → Type 0) → ((content : Content) → IsContent content → HasSize content) → Makes old reply new device IsContent ⊎ MayBeFull old reply new → OneStep old new reply
  makes_one device IsContent size (inr p) = refused_one (handles_full old) p.1
  makes_one device IsContent size (inl p) =
      let one : Object = record { name = p.name; device = device; is_live = true; content = p.content } in
      record {
        given = ap (λ (t : State). names t.objects) p.after ∙ (names-append old.objects one ∙ ap (λ r. names old.objects ++ option_to_list (name_given r)) (sym p.tells));
        sizes = λ sizes. subst HasSizes (sym p.after) (Sizes-append old.objects one sizes (size p.content p.is_content));
        refused = λ r e plain. absurd (ok_not_err (Name p.name) r (sym p.tells ∙ e));
        fresh = λ name some. subst (λ n. is_given old n ≡ false) (some_one p.name name (sym (ap name_given p.tells) ∙ some)) p.fresh;
      }

  creates_one : (looked : Looked ℕ) (IsContent : Content → Type 0) → ((on : ℕ) → looked ≡ Ok on → (content : Content) → IsContent content → HasSize content) → Creates old reply new looked IsContent → OneStep old new reply
  creates_one (Ok device) IsContent size p = makes_one device IsContent (size device refl) p
  creates_one (Err r) IsContent size p = refused_one r p

  size_of_equal : (content is : Content) → HasSize is → content ≡ is → HasSize content
  size_of_equal content is size e = subst HasSize (sym e) size

  -- ---- waits and jobs

  wish_one : (place : Option ℕ) → MatchOption place ⊥ (λ found. Tells old reply new (Holds (Some found))) → OneStep old new reply
  wish_one None p = absurd p
  wish_one (Some found) p = tells_one (Holds (Some found)) refl p

  mix_one : (on : Mixing) → Stands old as_output on.output → Mixes old reply new caller on → OneStep old new reply
  mix_one on is p = leaves_one (with_note (surfaces.with_bytes old on.output p.bytes) caller on.output.place outcome.Ok) (record { same_names = keeps.same_names; same_sizes = keeps.same_sizes }) p.leaves where
    keeps : Keeps old (surfaces.with_bytes old on.output p.bytes)
    keeps = keeps_content old on.output.place _ (output_size old on.output is)

  reply_of-refused : (o : Outcome) (r : Refusal) → reply_of o ≡ Err r → is_of_bitstream r ≡ false → ⊥
  reply_of-refused outcome.Ok r e plain = ok_not_err Done r e
  reply_of-refused (outcome.Bitstream slice) r e plain = absurd (let k : true ≡ false = ap is_of_bitstream (err_one (Bitstream slice) r e) ∙ plain in cc)
  reply_of-refused (outcome.Incomplete macroblocks) r e plain = absurd (let k : true ≡ false = ap is_of_bitstream (err_one (Incomplete macroblocks) r e) ∙ plain in cc)

  reply_of-name : (o : Outcome) → name_given (reply_of o) ≡ None
  reply_of-name outcome.Ok = refl
  reply_of-name (outcome.Bitstream slice) = refl
  reply_of-name (outcome.Incomplete macroblocks) = refl

  keeps_decoded : (target : Found VideoSurface) → Stands old as_video target → (picture : Picture) (o : Outcome) → Keeps old (decoded old target picture o)
  keeps_decoded target is picture outcome.Ok = keeps_content old target.place _ (video_size old target is)
  keeps_decoded target is picture (outcome.Bitstream slice) = keeps_all old
  keeps_decoded target is picture (outcome.Incomplete macroblocks) = keeps_all old

  decodes_one : (info : PictureInfo) (payloads : List (Option (List ℕ))) (on : Rendering) → Stands old as_video on.target → Decodes old reply new caller info payloads on → OneStep old new reply
  decodes_one info payloads on is p =
      let keeps = keeps_decoded on.target is p.picture p.outcome in
      record {
        given = ap (λ (t : State). names t.objects) p.after ∙ (keeps.same_names ∙ no_more (names old.objects) (ap name_given p.tells ∙ reply_of-name p.outcome));
        sizes = λ sizes. subst HasSizes (sym p.after) (keeps.same_sizes sizes);
        refused = λ r e plain. absurd (reply_of-refused p.outcome r (sym p.tells ∙ e) plain);
        fresh = none_fresh (ap name_given p.tells ∙ reply_of-name p.outcome);
      }

  counts_one : (info : PictureInfo) (bytes : List ℕ) (on : Rendering) → Stands old as_video on.target → Counts old reply new caller info bytes on → OneStep old new reply
  counts_one info bytes on is p = goes_one (units_counted info (length p.payloads)) (λ nothing. Decodes old reply new caller info p.payloads on) (λ nothing h a. decodes_one info p.payloads on is a) p.goes

  keeps_tick : (on : Found Device) (time : ℕ) → Keeps old (clock.ticked_at old on time)
  keeps_tick on time =
      let timed = keeps_content old on.place (DeviceObject (record on.value { time = time })) (λ sizes. tt) in
      record {
        same_names = names-all_shown time (clock.all_due old on.place time) _ ∙ timed.same_names;
        same_sizes = λ sizes. Sizes-all_shown time (clock.all_due old on.place time) _ (timed.same_sizes sizes);
      }

  keeps_end : (place : ℕ) → Keeps old (record old { objects = map (clock.destroyed_on place) old.objects })
  keeps_end place = record { same_names = names-destroyed place old.objects; same_sizes = Sizes-destroyed place old.objects }

  pub does_one : (call : Call) → Does old caller call reply new → OneStep old new reply
  does_one call.DeviceCreate p = creates_one (device_create old) (λ content. content ≡ new_device) (λ on h content e. size_of_equal content new_device tt e) p
  does_one (call.DeviceDestroy device) p = goes_one (clock.device_destroy old device) _ (λ on h a. leaves_one _ (keeps_end on.place) a) p
  does_one (call.VideoCreate device chroma width height) p = creates_one (video_create old device chroma width height) (IsNewVideo width height) (λ on h content e. size_of_equal content _ (video_created old device width height chroma on h) e.2) p
  does_one (call.VideoParameters surface) p = goes_one (surfaces.video old surface) _ (λ on h a. tells_one _ refl a) p
  does_one (call.VideoGetBits surface format count) p = goes_one (surfaces.video_bits old surface format count) _ (λ on h a. tells_one _ refl a.1) p
  does_one (call.VideoPutBits surface format bytes) p = goes_one (surfaces.video_bits old surface format (length bytes)) _ (λ on h a. leaves_one _ (keeps_content old on.place _ (video_size old on (video_bits_stands old surface format (length bytes) on h))) a.1.3) p
  does_one (call.VideoDestroy surface) p = goes_one (surfaces.video old surface) _ (λ on h a. leaves_one _ (keeps_destroyed old on.place) a) p
  does_one (call.OutputCreate device format width height) p = creates_one (output_create old device format width height) (λ content. content ≡ new_output format width height) (λ on h content e. size_of_equal content (new_output format width height) (output_created old device width height format on h) e) p
  does_one (call.OutputGetBits surface count) p = goes_one (surfaces.output_bits old surface count) _ (λ on h a. tells_one _ refl a.1) p
  does_one (call.OutputPutBits surface bytes) p = goes_one (surfaces.output_bits old surface (length bytes)) _ (λ on h a. leaves_one _ (keeps_content old on.place _ (output_size old on (output_bits_stands old surface (length bytes) on h))) a.1) p
  does_one (call.OutputDestroy surface) p = goes_one (surfaces.output old surface) _ (λ on h a. leaves_one _ (keeps_destroyed old on.place) a) p
  does_one (call.DecoderQuery device profile) p = goes_one (first_handle old (named old as_device device)) _ (λ on h a. tells_one _ refl a) p
  does_one (call.DecoderCreate device profile width height max_references) p = creates_one (decoder_create old device profile width height max_references) (λ content. content ≡ new_decoder profile width height max_references)
      (λ on h content e. size_of_equal content (new_decoder profile width height max_references) (created_size old device profile width height max_references on h) e) p
  does_one (call.DecoderDestroy decoder) p = goes_one (surfaces.decoder old decoder) _ (λ on h a. leaves_one _ (keeps_destroyed old on.place) a) p
  does_one (call.MixerCreate device width height) p = creates_one (mixer_create old device width height) (λ content. content ≡ new_mixer width height) (λ on h content e. size_of_equal content (new_mixer width height) (mixer_created old device width height on h) e) p
  does_one (call.MixerSetMatrix mixer matrix) p = goes_one (surfaces.mixer old mixer) _ (λ on h a. leaves_one _ (keeps_content old on.place _ (mixer_size old on (first_stands old as_mixer mixer on h))) a) p
  does_one (call.MixerDestroy mixer) p = goes_one (surfaces.mixer old mixer) _ (λ on h a. leaves_one _ (keeps_destroyed old on.place) a) p
  does_one (call.QueueCreate device window) p = creates_one (queue_create old device) (λ content. content ≡ new_queue window) (λ on h content e. size_of_equal content (new_queue window) tt e) p
  does_one (call.QueueDestroy queue) p = goes_one (queues.queue old queue) _ (λ on h a. leaves_one _ (keeps_destroyed_with old on.place _ tt) a) p
  does_one (call.QueueDisplay queue surface earliest) p = goes_one (queues.queue_display old queue surface earliest) _ (λ on h a. leaves_one _ (keeps_content old on.queue.place _ (λ sizes. tt)) a) p
  does_one (call.QueryStatus queue surface) p = goes_one (queues.presented old queue surface) _ (λ on h a. tells_one _ refl a) p
  does_one (call.BlockUntilIdle queue surface) p = goes_one (queues.presented old queue surface) _ (λ on h a. tells_one _ refl a.1) p
  does_one (call.GetTime queue) p = goes_one (queues.queue old queue) _ (λ on h a. tells_one _ refl a) p
  does_one (call.Promise queue time) p = goes_one (queues.queue old queue) _ (λ on h a. leaves_one _ (keeps_content old on.place _ (λ sizes. tt)) a) p
  does_one (call.Advance device time) p = goes_one (clock.advance old device time) _ (λ on h a. done_one _ _ refl (keeps_tick on time) (a.1, a.2)) p
  does_one (call.Preempt device) p = goes_one (clock.device old device) _ (λ on h a. leaves_one _ (keeps_content old on.place _ (λ sizes. tt)) a) p
  does_one (call.Poll wishes) p = goes_one (first_wish old wishes) _ (λ on h a. tells_one _ refl a) p
  does_one (call.WaitUntil wishes) p = goes_one (first_wish old wishes) _ (λ on h a. wish_one on a) p
  does_one call.Kept p = tells_one _ refl p
  does_one (call.Render decoder target info bytes) p = goes_one (render old decoder target info) _ (λ on h a. counts_one info bytes on (render_stands old decoder target info on h) a) p
  does_one (call.Mix mixer structure video output) p = goes_one (mix old mixer structure video output) _ (λ on h a. mix_one on (mix_stands old mixer structure video output on h) a) p
