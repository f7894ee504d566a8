-- A call that waits isn't answered.
use Rattle.std.proofs.Common.{◌≡◌, inl, inr, ℕ, Bool, true, false, not, List, length, Option, Some, None, Ok, Err, IsOkAnd, MatchOption, is_none, refl, ap, sym, ◌∙◌, subst}
use Rattle.cb_types.specs.declared.picture_info.PictureInfo.{PictureInfo}
use Rattle.decoder_render.specs.Submission.{ArePayloads}
use Rattle.decoder_render.proofs.OneReading.{payloads_one}
use Rattle.driver_model.specs.Answers.{Goes, Reply, Tells}
use Rattle.driver_model.specs.Clock.{advance, is_tick_held}
use Rattle.driver_model.specs.Laws.{WaitingCallsAreNotAnswered}
use Rattle.driver_model.specs.Mixes.{is_mix_held, mix}
use Rattle.driver_model.specs.Presented.{is_idle_at}
use Rattle.driver_model.specs.Queues.{presented}
use Rattle.driver_model.specs.Refusals.{Looked}
use Rattle.driver_model.specs.Renders.{Counts, Rendering, is_render_held, render, units_counted}
use Rattle.driver_model.specs.States.{State, is_out}
use Rattle.driver_model.specs.Steps.{Does}
use Rattle.driver_model.specs.Surfaces.{output_bits, video_bits}
use Rattle.driver_model.specs.Waits.{FoundAnd, Waits}
use Rattle.driver_model.specs.Wishes.{first_wish}
use Rattle.driver_model.specs.declared.calls.Call.{Call}
use Rattle.driver_model.specs.declared.calls.Call.TheVariants as call
use Rattle.driver_model.specs.declared.replies.Answer.TheVariants.{Holds}

both_ways : (b : Bool) → b ≡ true → b ≡ false → ⊥
both_ways b on off = let k : true ≡ false = sym on ∙ off in absurd cc

module _ (old new : State) (caller : List ℕ) (reply : Reply) where
  -- it waits for a test to fail, and its row says that it fails
  held : {A : Type 0} (looked : Looked A) (test : A → Bool) (D : A → Type 0) → ((on : A) → D on → test on ≡ false) → FoundAnd looked test → Goes old reply new looked D → ⊥
  held (Ok on) test D fails waits goes = both_ways (test on) waits (fails on goes)
  held (Err refusal) test D fails waits goes = waits

  wish_holds_there : (place : Option ℕ) → MatchOption place ⊥ (λ found. Tells old reply new (Holds (Some found))) → is_none place ≡ false
  wish_holds_there None h = absurd h
  wish_holds_there (Some place) h = refl

  -- a render waits behind its last look, the one at the bytes
  render_held : (info : PictureInfo) (bytes : List ℕ) (looked : Looked Rendering)
      → IsOkAnd looked (λ on. (payloads : List (Option (List ℕ))) × ArePayloads bytes payloads × FoundAnd (units_counted info (length payloads)) (λ nothing. is_render_held old on))
      → Goes old reply new looked (Counts old reply new caller info bytes) → ⊥
  render_held info bytes (Ok on) waits p =
      held (units_counted info (length p.payloads)) (λ nothing. is_render_held old on) _ (λ nothing a. a.at_home)
      (subst (λ (l : List (Option (List ℕ))). FoundAnd (units_counted info (length l)) (λ nothing. is_render_held old on)) (payloads_one bytes waits.0 p.payloads waits.1 p.units) waits.2) p.goes
  render_held info bytes (Err refusal) waits p = waits

  does_not : (call : Call) → Waits old call → Does old caller call reply new → ⊥
  does_not (call.VideoGetBits surface format count) waits p = held (video_bits old surface format count) (λ on. is_out old on.place) _ (λ on a. a.0) waits p
  does_not (call.VideoPutBits surface format bytes) waits p = held (video_bits old surface format (length bytes)) (λ on. is_out old on.place) _ (λ on a. a.0) waits p
  does_not (call.OutputGetBits surface count) waits p = held (output_bits old surface count) (λ on. is_out old on.place) _ (λ on a. a.0) waits p
  does_not (call.OutputPutBits surface bytes) waits p = held (output_bits old surface (length bytes)) (λ on. is_out old on.place) _ (λ on a. a.0) waits p
  does_not (call.BlockUntilIdle queue surface) waits p = held (presented old queue surface) (λ on. not (is_idle_at old on.surface.place)) _ (λ on a. ap not a.0) waits p
  does_not (call.Advance device time) waits p = held (advance old device time) (λ on. is_tick_held old on.place time) _ (λ on a. a.0) waits p
  does_not (call.WaitUntil wishes) waits p = held (first_wish old wishes) is_none _ wish_holds_there waits p
  does_not (call.Render decoder target info bytes) waits p =
      render_held info bytes (render old decoder target info) waits p
  does_not (call.Mix mixer structure video output) waits p = held (mix old mixer structure video output) (is_mix_held old) _ (λ on a. a.at_home) waits p
  does_not _ waits p = absurd waits

pub waiting_calls_are_not_answered : WaitingCallsAreNotAnswered
waiting_calls_are_not_answered old new caller call reply waits (inl p) = p.1.0
waiting_calls_are_not_answered old new caller call reply waits (inr p) = absurd (does_not old new caller reply call waits p)
