use Rattle.std.proofs.Common.{◌≡◌, ◌∙◌, ap, inr, sym}
use Rattle.std.specs.Option.{is_some}
use Rattle.decoder_render.specs.declared.outcome.Outcome.TheVariants as outcome
use Rattle.driver_model.specs.Objects.{OutputSurface, VideoSurface}
use Rattle.driver_model.specs.States.{with_note}
use Rattle.plain_driver.specs.States.{state_of}
use Rattle.plain_driver.proofs.Goes.{some_one}
use Rattle.plain_driver.proofs.MixLooks.{mix-at}
use Rattle.plain_driver.proofs.MixSteps.{mix_done, mix_refused, noted_below, was_ok}
use Rattle.plain_driver.proofs.driver.Plain.mix.Goals as goal

pub returns-in-Err-clause-step : goal.returns-in-Err-clause-step
returns-in-Err-clause-step c = inr (mix_refused (state_of c.args.self.now) c.args.caller.now c.args.mixer c.args.structure c.args.video c.args.output c.in-Err.refusal c.in-Err.ensures)

pub mixed-requires-clause-mixer : goal.mixed-requires-clause-mixer
mixed-requires-clause-mixer c = ap is_some (mix-at (state_of c.args.self.now) c.args.mixer c.args.structure c.args.video c.args.output c.in-Ok.on c.in-Ok.ensures).of_mixer

pub mixed-requires-clause-video : goal.mixed-requires-clause-video
mixed-requires-clause-video c = ap is_some (mix-at (state_of c.args.self.now) c.args.mixer c.args.structure c.args.video c.args.output c.in-Ok.on c.in-Ok.ensures).of_video

pub mixed-requires-clause-output : goal.mixed-requires-clause-output
mixed-requires-clause-output c = ap is_some (mix-at (state_of c.args.self.now) c.args.mixer c.args.structure c.args.video c.args.output c.in-Ok.on c.in-Ok.ensures).of_output

pub mixed-requires-clause-size : goal.mixed-requires-clause-size
mixed-requires-clause-size c = λ v o is_v is_o.
    let on = (mix-at (state_of c.args.self.now) c.args.mixer c.args.structure c.args.video c.args.output c.in-Ok.on c.in-Ok.ensures) in
    ap (λ (x : VideoSurface). x.size) (some_one v on.found.video.value (sym is_v ∙ on.of_video)) ∙ (on.one_size ∙ ap (λ (x : OutputSurface). x.size) (sym (some_one o on.found.output.value (sym is_o ∙ on.of_output))))

pub put-requires : goal.put-requires
put-requires c =
    let on = (mix-at (state_of c.args.self.now) c.args.mixer c.args.structure c.args.video c.args.output c.in-Ok.on c.in-Ok.ensures) in
    noted_below c.args.self.now c.note.new.self c.args.caller.now c.in-Ok.on.output c.in-Ok.on.output (was_ok c.note.result _ (sym c.is_err.ensures.value ∙ c.if-is_err.false) c.note.ensures.ok) on.below

pub returns-clause-step : goal.returns-clause-step
returns-clause-step c =
    let s = state_of c.args.self.now in
    let noted : state_of c.note.new.self ≡ with_note s c.args.caller.now c.in-Ok.on.output outcome.Ok = was_ok c.note.result _ (sym c.is_err.ensures.value ∙ c.if-is_err.false) c.note.ensures.ok in
    inr (mix_done s c.args.caller.now c.args.mixer c.args.structure c.args.video c.args.output c.in-Ok.on c.in-Ok-mixed.content (state_of c.note.new.self) (state_of c.put.new.self) c.in-Ok.ensures (sym c.is_mix_held.ensures ∙ c.if-is_mix_held.false) c.in-Ok-mixed.ensures noted c.put.ensures)
