-- Two steps of one call from one state: with one reply they leave one state, and their refusals are one.
use Rattle.std.proofs.Common.{◌≡◌, ◌⊎◌, inl, inr, ℕ, Bool, true, false, List, length, Option, Some, None, Ok, MatchOption, ap, sym, ◌∙◌}
use Rattle.cb_types.specs.declared.size.SizeMbs.{SizeMbs}
use Rattle.bits_io.specs.ByteOrder.{bytes_of}
use Rattle.vd_plane.specs.Picture.{SameSize}
use Rattle.vd_plane.specs.declared.picture.Picture.{Picture}
use Rattle.driver_model.specs.Answers.{Goes, Reply, Tells}
use Rattle.driver_model.specs.Clock as clock
use Rattle.driver_model.specs.Creates.{Creates, IsNewVideo, Makes, MayBeFull, handles_full, new_device, new_output, new_decoder, new_mixer, new_queue, device_create, video_create, output_create, decoder_create, mixer_create, queue_create}
use Rattle.driver_model.specs.Laws.{HasSizes}
use Rattle.driver_model.specs.Objects.{Content, VideoObject, as_device}
use Rattle.driver_model.specs.Refusals.{Looked, first_handle}
use Rattle.driver_model.specs.Sizes.{size_of_sides}
use Rattle.driver_model.specs.States.{State, named, with_note, with_object}
use Rattle.driver_model.specs.Surfaces as surfaces
use Rattle.driver_model.specs.Surfaces.{with_bytes}
use Rattle.driver_model.specs.Queues as queues
use Rattle.driver_model.specs.Steps.{Does}
use Rattle.driver_model.specs.Mixes.{Mixes, Mixing, mix}
use Rattle.driver_model.specs.Wishes.{first_wish}
use Rattle.driver_model.specs.declared.calls.Call.{Call}
use Rattle.driver_model.specs.declared.calls.Call.TheVariants as call
use Rattle.decoder_render.specs.declared.outcome.Outcome.TheVariants as outcome
use Rattle.mixer.proofs.Pixels.{pixels_are_all}
use Rattle.bits_io.proofs.Same.{put_after_get}
use Rattle.driver_model.specs.declared.replies.Answer.{Answer}
use Rattle.driver_model.specs.declared.replies.Answer.TheVariants.{Done, Holds, Name}
use Rattle.vd_plane.proofs.OnePicture.{picture_one}
use Rattle.driver_model.proofs.Pictures.{zeros_one}
use Rattle.driver_model.proofs.SameRender.{render_two}
use Rattle.driver_model.proofs.SameReplies.{TwoSteps, both_ok, both_refused, err_and_ok, goes_two, ok_and_err}

name_one : (a b : ℕ) → (let r : Reply = Ok (Name a) in r ≡ Ok (Name b)) → a ≡ b
name_one a b h = cc

module _ (old new other : State) (reply again : Reply) where
  -- ---- creates

  made_one : (device : ℕ) (IsContent : Content → Type 0) → ((a b : Content) → IsContent a → IsContent b → a ≡ b)
      → (p : Makes old reply new device IsContent) → (q : Makes old again other device IsContent) → reply ≡ again → new ≡ other
  made_one device IsContent one p q e =
      let name : p.name ≡ q.name = name_one p.name q.name (sym p.tells ∙ (e ∙ q.tells)) in
      let content : p.content ≡ q.content = one p.content q.content p.is_content q.is_content in
      p.after
      ∙ ((λ i. with_object old (record { name = name i; device = device; is_live = true; content = content i }))
      ∙ sym q.after)

  makes_two : (device : ℕ) (IsContent : Content → Type 0) → ((a b : Content) → IsContent a → IsContent b → a ≡ b)
      → (p : Makes old reply new device IsContent ⊎ MayBeFull old reply new) → (q : Makes old again other device IsContent ⊎ MayBeFull old again other)
      → TwoSteps new other reply again
  makes_two device IsContent one (inl p) (inl q) = both_ok old new other reply again (Name p.name) (Name q.name) p.tells q.tells (made_one device IsContent one p q)
  makes_two device IsContent one (inl p) (inr q) = ok_and_err old new other reply again (Name p.name) (handles_full old) p.tells q.1.0
  makes_two device IsContent one (inr p) (inl q) = err_and_ok old new other reply again (handles_full old) (Name q.name) p.1.0 q.tells
  makes_two device IsContent one (inr p) (inr q) = both_refused old new other reply again (handles_full old) p.1 q.1

  pub creates_two : (looked : Looked ℕ) (IsContent : Content → Type 0) → ((a b : Content) → IsContent a → IsContent b → a ≡ b)
      → Creates old reply new looked IsContent → Creates old again other looked IsContent → TwoSteps new other reply again
  creates_two looked IsContent one =
      goes_two old new other reply again looked (λ device. Makes old reply new device IsContent ⊎ MayBeFull old reply new) (λ device. Makes old again other device IsContent ⊎ MayBeFull old again other) (λ device p q. makes_two device IsContent one p q)

pub video_one : (width height : ℕ) (a b : Content) → IsNewVideo width height a → IsNewVideo width height b → a ≡ b
video_one width height a b p q =
    let size : SizeMbs = size_of_sides width height in
    let one : p.0 ≡ q.0 = zeros_one size.width size.height p.0 q.0 p.1 q.1 in
    p.2 ∙ ((λ i. VideoObject (record { size = size; picture = one i })) ∙ sym q.2)

-- a picture's bytes say its samples
flipped : (p q : Picture) → SameSize p q → SameSize q p
flipped p q same = record {
  y = record { width = sym same.y.width; height = sym same.y.height; count = sym same.y.count };
  cb = record { width = sym same.cb.width; height = sym same.cb.height; count = sym same.cb.count };
  cr = record { width = sym same.cr.width; height = sym same.cr.height; count = sym same.cr.count };
}

put_one : (format : ℕ) (before p q : Picture) (bytes : List ℕ) → SameSize before p → SameSize before q → bytes_of format p ≡ bytes → bytes_of format q ≡ bytes → p ≡ q
put_one format before p q bytes sp sq bp bq = picture_one p q (put_after_get format p before q bytes (sym bp) (flipped before p sp) sq bq)

module _ (old new other : State) (caller : List ℕ) (reply again : Reply) where
  -- a row that answers the same and leaves the same state in both
  same_two : (x : Answer) (s : State) → (reply ≡ Ok x) × (new ≡ s) → (again ≡ Ok x) × (other ≡ s) → TwoSteps new other reply again
  same_two x s p q = both_ok old new other reply again x x p.0 q.0 (λ e. p.1 ∙ sym q.1)

  held_two : (held : Bool) (x : Answer) (s : State) → (held ≡ false) × ((reply ≡ Ok x) × (new ≡ s)) → (held ≡ false) × ((again ≡ Ok x) × (other ≡ s)) → TwoSteps new other reply again
  held_two held x s p q = same_two x s p.1 q.1

  wish_two : (place : Option ℕ) → MatchOption place ⊥ (λ found. Tells old reply new (Holds (Some found))) → MatchOption place ⊥ (λ found. Tells old again other (Holds (Some found))) → TwoSteps new other reply again
  wish_two None p q = absurd p
  wish_two (Some found) p q = same_two (Holds (Some found)) old p q

  mix_two : (on : Mixing) → Mixes old reply new caller on → Mixes old again other caller on → TwoSteps new other reply again
  mix_two on p q =
      let bytes : p.bytes ≡ q.bytes = pixels_are_all on.video.value.picture on.mixer.value.matrix on.output.value.format p.bytes q.bytes p.pixels q.pixels in
      both_ok old new other reply again Done Done p.leaves.0 q.leaves.0 (λ e.
      p.leaves.1 ∙ (ap (λ b. with_note (with_bytes old on.output b) caller on.output.place outcome.Ok) bytes ∙ sym q.leaves.1))

  -- nothing was refused, and these two rows hold
  on_both : {A : Type 0} (looked : Looked A) (D E : A → Type 0) → ((on : A) → D on → E on → TwoSteps new other reply again)
      → Goes old reply new looked D → Goes old again other looked E → TwoSteps new other reply again
  on_both looked D E two p q = goes_two old new other reply again looked D E two p q

  pub does_two : (call : Call) → HasSizes old → Does old caller call reply new → Does old caller call again other → TwoSteps new other reply again
  does_two call.DeviceCreate sizes p q = creates_two old new other reply again (device_create old) (λ content. content ≡ new_device) (λ a b x y. x ∙ sym y) p q
  does_two (call.DeviceDestroy device) sizes p q = on_both (clock.device_destroy old device) _ _ (λ on a b. same_two _ _ a b) p q
  does_two (call.VideoCreate device chroma width height) sizes p q = creates_two old new other reply again (video_create old device chroma width height) (IsNewVideo width height) (video_one width height) p q
  does_two (call.VideoParameters surface) sizes p q = on_both (surfaces.video old surface) _ _ (λ on a b. same_two _ _ a b) p q
  does_two (call.VideoGetBits surface format count) sizes p q = on_both (surfaces.video_bits old surface format count) _ _ (λ on a b. held_two _ _ _ a b) p q
  does_two (call.VideoPutBits surface format bytes) sizes p q =
      on_both (surfaces.video_bits old surface format (length bytes)) _ _ (λ on a b.
      both_ok old new other reply again Done Done a.1.3.0 b.1.3.0 (λ e.
      a.1.3.1 ∙ (ap (λ picture. surfaces.with_picture old on picture) (put_one format on.value.picture a.1.0 b.1.0 bytes a.1.1 b.1.1 a.1.2 b.1.2) ∙ sym b.1.3.1))) p q
  does_two (call.VideoDestroy surface) sizes p q = on_both (surfaces.video old surface) _ _ (λ on a b. same_two _ _ a b) p q
  does_two (call.OutputCreate device format width height) sizes p q = creates_two old new other reply again (output_create old device format width height) (λ content. content ≡ new_output format width height) (λ a b x y. x ∙ sym y) p q
  does_two (call.OutputGetBits surface count) sizes p q = on_both (surfaces.output_bits old surface count) _ _ (λ on a b. held_two _ _ _ a b) p q
  does_two (call.OutputPutBits surface bytes) sizes p q = on_both (surfaces.output_bits old surface (length bytes)) _ _ (λ on a b. held_two _ _ _ a b) p q
  does_two (call.OutputDestroy surface) sizes p q = on_both (surfaces.output old surface) _ _ (λ on a b. same_two _ _ a b) p q
  does_two (call.DecoderQuery device profile) sizes p q = on_both (first_handle old (named old as_device device)) _ _ (λ on a b. same_two _ _ a b) p q
  does_two (call.DecoderCreate device profile width height max_references) sizes p q = creates_two old new other reply again (decoder_create old device profile width height max_references) (λ content. content ≡ new_decoder profile width height max_references) (λ a b x y. x ∙ sym y) p q
  does_two (call.DecoderDestroy decoder) sizes p q = on_both (surfaces.decoder old decoder) _ _ (λ on a b. same_two _ _ a b) p q
  does_two (call.MixerCreate device width height) sizes p q = creates_two old new other reply again (mixer_create old device width height) (λ content. content ≡ new_mixer width height) (λ a b x y. x ∙ sym y) p q
  does_two (call.MixerSetMatrix mixer matrix) sizes p q = on_both (surfaces.mixer old mixer) _ _ (λ on a b. same_two _ _ a b) p q
  does_two (call.MixerDestroy mixer) sizes p q = on_both (surfaces.mixer old mixer) _ _ (λ on a b. same_two _ _ a b) p q
  does_two (call.QueueCreate device window) sizes p q = creates_two old new other reply again (queue_create old device) (λ content. content ≡ new_queue window) (λ a b x y. x ∙ sym y) p q
  does_two (call.QueueDestroy queue) sizes p q = on_both (queues.queue old queue) _ _ (λ on a b. same_two _ _ a b) p q
  does_two (call.QueueDisplay queue surface earliest) sizes p q = on_both (queues.queue_display old queue surface earliest) _ _ (λ on a b. same_two _ _ a b) p q
  does_two (call.QueryStatus queue surface) sizes p q = on_both (queues.presented old queue surface) _ _ (λ on a b. same_two _ _ a b) p q
  does_two (call.BlockUntilIdle queue surface) sizes p q = on_both (queues.presented old queue surface) _ _ (λ on a b. same_two _ _ a.1 b.1) p q
  does_two (call.GetTime queue) sizes p q = on_both (queues.queue old queue) _ _ (λ on a b. same_two _ _ a b) p q
  does_two (call.Promise queue time) sizes p q = on_both (queues.queue old queue) _ _ (λ on a b. same_two _ _ a b) p q
  does_two (call.Advance device time) sizes p q = on_both (clock.advance old device time) _ _ (λ on a b. same_two _ _ (a.1, a.2) (b.1, b.2)) p q
  does_two (call.Preempt device) sizes p q = on_both (clock.device old device) _ _ (λ on a b. same_two _ _ a b) p q
  does_two (call.Poll wishes) sizes p q = on_both (first_wish old wishes) _ _ (λ on a b. same_two _ _ a b) p q
  does_two (call.WaitUntil wishes) sizes p q = on_both (first_wish old wishes) _ _ (λ on a b. wish_two on a b) p q
  does_two call.Kept sizes p q = same_two _ _ p q
  does_two (call.Render decoder target info bytes) sizes p q = render_two old new other caller reply again decoder target info bytes sizes p q
  does_two (call.Mix mixer structure video output) sizes p q = on_both (mix old mixer structure video output) _ _ mix_two p q
