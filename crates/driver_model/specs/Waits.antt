-- When a call waits: it isn't refused, and what it waits for isn't so yet. It stands in no history before it is answered.
use Rattle.std.specs.Prelude.{◌≡◌, ℕ, Bool, true, not, List, length, Option, IsOkAnd}
use Rattle.std.specs.Option.{is_none}
use Rattle.decoder_render.specs.Submission.{ArePayloads}
use Rattle.driver_model.specs.Clock.{advance, is_tick_held}
use Rattle.driver_model.specs.Mixes.{is_mix_held, mix}
use Rattle.driver_model.specs.Presented.{is_idle_at}
use Rattle.driver_model.specs.Queues.{presented}
use Rattle.driver_model.specs.Refusals.{Looked}
use Rattle.driver_model.specs.Renders.{is_render_held, render, units_counted}
use Rattle.driver_model.specs.States.{State, is_out}
use Rattle.driver_model.specs.Surfaces.{output_bits, video_bits}
use Rattle.driver_model.specs.Wishes.{first_wish}
use Rattle.driver_model.specs.declared.calls.Call.{Call}
use Rattle.driver_model.specs.declared.calls.Call.TheVariants as call

-- nothing is refused, and the test holds of what was found
abbrev pub FoundAnd : {A : Type 0} → Looked A → (A → Bool) → Type 0
FoundAnd looked test = IsOkAnd looked (λ found. test found ≡ true)

-- The call waits in this state.
abbrev pub Waits : State → Call → Type 0
Waits s (call.VideoGetBits surface format count) = FoundAnd (video_bits s surface format count) (λ on. is_out s on.place)
Waits s (call.VideoPutBits surface format bytes) = FoundAnd (video_bits s surface format (length bytes)) (λ on. is_out s on.place)
Waits s (call.OutputGetBits surface count) = FoundAnd (output_bits s surface count) (λ on. is_out s on.place)
Waits s (call.OutputPutBits surface bytes) = FoundAnd (output_bits s surface (length bytes)) (λ on. is_out s on.place)
Waits s (call.BlockUntilIdle queue surface) = FoundAnd (presented s queue surface) (λ on. not (is_idle_at s on.surface.place))
Waits s (call.Advance device time) = FoundAnd (advance s device time) (λ on. is_tick_held s on.place time)
Waits s (call.WaitUntil wishes) = FoundAnd (first_wish s wishes) is_none
Waits s (call.Render decoder target info bytes) =
    IsOkAnd (render s decoder target info) (λ on.
    (payloads : List (Option (List ℕ)))
    × ArePayloads bytes payloads
    × FoundAnd (units_counted info (length payloads)) (λ nothing. is_render_held s on))
Waits s (call.Mix mixer structure video output) = FoundAnd (mix s mixer structure video output) (is_mix_held s)
Waits s _ = ⊥
