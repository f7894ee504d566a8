-- The creates of a new buffer's driver are refused for want of memory alone.
use Rattle.std.proofs.Common.{◌≡◌, inl, inr, ℕ, ◌<◌, ◌≤◌, ◌==◌, ◌||◌, if◌then◌else◌, Some, false, [], length, Ok, Err, refl, ap, ◌∙◌, subst, arith}
use Rattle.std.proofs.lemmas.Bool.Decides.{nat_tests}
use Rattle.std.proofs.lemmas.List.Sums.{count_by-le-length}
use Rattle.cb_types.specs.SizeMbs.{IsWithinLimits, luma_height, luma_width}
use Rattle.cb_types.specs.declared.size.SizeMbs.{SizeMbs}
use Rattle.vd_status.specs.declared.refusal.Refusal.{Refusal}
use Rattle.vd_status.specs.declared.refusal.Refusal.TheVariants.{BadSize, OutOfMemory}
use Rattle.driver_model.specs.Answers.{Reply}
use Rattle.driver_model.specs.Creates.{Creates, IsNewVideo, decoder_create, device_create, handles_full, is_full, live_objects, new_decoder, new_device, room, video_create}
use Rattle.driver_model.specs.Objects.{Content, as_device}
use Rattle.driver_model.specs.Refusals.{Looked, first_handle, refused_if}
use Rattle.driver_model.specs.Sizes.{is_within_limits, size_for}
use Rattle.driver_model.specs.States.{State, empty_state, named}
use Rattle.driver_model.specs.Steps.{Does}
use Rattle.driver_model.specs.Waits.{Waits}
use Rattle.driver_model.specs.declared.calls.Call.{Call}
use Rattle.driver_model.specs.declared.calls.Call.TheVariants as call
use Rattle.driver_model.specs.declared.numbers.TheConstants.{CHROMA_420, CONSTRAINED_BASELINE, MAX_REFERENCES}
use Rattle.driver_model.specs.declared.replies.Answer.TheVariants.{Name}
use Rattle.driver_model.proofs.Agree.{limits_are_one}
use Rattle.driver_model.proofs.Rows.{in_use-is, then-Ok}
use Rattle.driver_core.specs.Answered.{Calls, IsAnswer}
use Rattle.driver_core.specs.Stands.{Stands}
use Rattle.driver_core.specs.declared.answer.CoreAnswer.{CoreAnswer}
use Rattle.driver_core.specs.declared.answer.CoreAnswer.TheVariants.{Later, Now}
use Rattle.driver_core.specs.declared.driver.Core.{Core}
use Rattle.driver_core.proofs.Asking.{decoder_room, video_room}
use Rattle.picture_buffer.specs.Making.{HasRoom, IsHandleOrWant, first_device}
use Rattle.picture_buffer.proofs.MakingFinds.{awake_as_found}
use Rattle.picture_buffer.proofs.MakingSteps.{HasDevice, sides}

err_is : (a b : Refusal) → (let reply : Reply = Err a in reply ≡ Err b) → a ≡ b
err_is a b e = cc

err_not_ok : (refusal : Refusal) (name : ℕ) → (let reply : Reply = Err refusal in reply ≡ Ok (Name name)) → ⊥
err_not_ok refusal name e = cc

-- ---- a create that finds no fault, where few objects were made

module _ (new : Core) (d : State) (few : length d.objects < 1024) (asked : Call) (looked : Looked ℕ) (place : ℕ) (looks : looked ≡ Ok place) (IsNew : Content → Type 0)
    (creates : (reply : Reply) (after : State) → Does d [] asked reply after → Creates d reply after looked IsNew) (never_waits : Waits d asked → ⊥) where
  not_refused : (refusal : Refusal) (after : State) → Creates d (Err refusal) after looked IsNew → ⊥
  not_refused refusal after does = elim (subst (λ l. Creates d (Err refusal) after l IsNew) looks does) [
    | inl makes ↦ err_not_ok refusal makes.name makes.tells
    | inr full ↦ omega (arith, full.0, few)
  ]

  only_wants : (answer : CoreAnswer ℕ) → IsAnswer new d [] asked Name answer → IsHandleOrWant answer
  only_wants (Now (Ok name)) is = tt
  only_wants (Now (Err refusal)) is = elim is.step [
    | inl wants ↦ err_is refusal OutOfMemory wants.1.0
    | inr does ↦ absurd (not_refused refusal is.after (creates (Err refusal) is.after does))
  ]
  only_wants Later is = absurd (never_waits is.0)

-- ---- no fault is found

not_full : (live many : ℕ) → live ≤ many → many < 1024 → (live == 1024) ≡ false
not_full live many below few = grind (arith, nat_tests)

has_room : (d : State) → length d.objects < 1024 → room d false ≡ Ok tt
has_room d few =
    let full : is_full d ≡ false = not_full (live_objects d) (length d.objects) (count_by-le-length _ d.objects) few in
    ap (λ b. refused_if (b || false) (handles_full d)) full

fits : (size : SizeMbs) (width height : ℕ) → IsWithinLimits size → width ≡ luma_width size → height ≡ luma_height size → size_for width height ≡ Ok size
fits size width height limits across down =
    ap (λ (z : SizeMbs). if is_within_limits z then Ok z else Err BadSize) (sides size width height across down)
    ∙ ap (λ b. if b then Ok size else Err BadSize) ((limits_are_one size).1 limits)

module _ (d : State) (device : ℕ) (has_device : named d as_device device ≡ Some first_device) (few : length d.objects < 1024)
    (size : SizeMbs) (limits : IsWithinLimits size) (width height : ℕ) (across : width ≡ luma_width size) (down : height ≡ luma_height size) where
  on_device : first_handle d (named d as_device device) ≡ Ok first_device
  on_device = in_use-is d 0 (named d as_device device) first_device has_device (awake_as_found d device first_device has_device)

  decoder_looks : decoder_create d device CONSTRAINED_BASELINE width height MAX_REFERENCES ≡ Ok 0
  decoder_looks =
      decoder_room d device width height first_device on_device 0 refl size (fits size width height limits across down) CONSTRAINED_BASELINE MAX_REFERENCES refl refl
      ∙ then-Ok (room d false) (Ok 0) (has_room d few)

  video_looks : video_create d device CHROMA_420 width height ≡ Ok 0
  video_looks =
      video_room d device width height first_device on_device 0 refl size (fits size width height limits across down) CHROMA_420 refl
      ∙ then-Ok (room d false) (Ok 0) (has_room d few)

-- ---- the three creates

pub device_wants : (old new : Core) → Stands old empty_state → (answer : CoreAnswer ℕ) → Calls old new call.DeviceCreate Name answer → IsHandleOrWant answer
device_wants old new stands answer calls =
    only_wants new empty_state (omega arith) call.DeviceCreate (device_create empty_state) 0 refl (λ content. content ≡ new_device) (λ reply after does. does) (λ waits. waits) answer (calls empty_state [] stands)

module _ (old new : Core) (device : ℕ) (size : SizeMbs) (limits : IsWithinLimits size) (width height : ℕ) (across : width ≡ luma_width size) (down : height ≡ luma_height size)
    (answer : CoreAnswer ℕ) where
  pub decoder_wants : HasDevice old device → Calls old new (call.DecoderCreate device CONSTRAINED_BASELINE width height MAX_REFERENCES) Name answer → IsHandleOrWant answer
  decoder_wants had calls =
      let few : length had.state.objects < 1024 = omega (arith, had.alone) in
      only_wants new had.state few (call.DecoderCreate device CONSTRAINED_BASELINE width height MAX_REFERENCES) (decoder_create had.state device CONSTRAINED_BASELINE width height MAX_REFERENCES) 0
      (decoder_looks had.state device had.has_device few size limits width height across down) (λ content. content ≡ new_decoder CONSTRAINED_BASELINE width height MAX_REFERENCES) (λ reply after does. does)
      (λ waits. waits) answer (calls had.state [] had.stands)

  pub video_wants : HasRoom old device size → Calls old new (call.VideoCreate device CHROMA_420 width height) Name answer → IsHandleOrWant answer
  video_wants at calls =
      let few : length at.made.state.objects < 1024 = omega (arith, at.made.many, at.few) in
      only_wants new at.made.state few (call.VideoCreate device CHROMA_420 width height) (video_create at.made.state device CHROMA_420 width height) 0
      (video_looks at.made.state device at.made.has_device few size limits width height across down) (IsNewVideo width height) (λ reply after does. does)
      (λ waits. waits) answer (calls at.made.state [] at.made.stands)
