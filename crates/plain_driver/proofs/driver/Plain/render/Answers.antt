use Rattle.std.proofs.Common.{◌≡◌, ◌∙◌, ap, inr, subst, sym}
use Rattle.std.specs.Option.{is_some}
use Rattle.decoder_render.specs.declared.outcome.Outcome.{Outcome}
use Rattle.driver_model.specs.Answers.{reply_with}
use Rattle.driver_model.specs.Renders.{units_counted}
use Rattle.driver_model.specs.States.{with_note}
use Rattle.driver_model.specs.declared.replies.Answer.TheVariants.{Done}
use Rattle.plain_driver.specs.Rendering.{IsHandedIn}
use Rattle.plain_driver.specs.States.{state_of, video_of}
use Rattle.plain_driver.proofs.MixSteps.{was_ok}
use Rattle.plain_driver.proofs.RenderFinds.{render-at}
use Rattle.plain_driver.proofs.RenderSteps.{handed_size, noted_below, render_done, render_waits}
use Rattle.plain_driver.proofs.driver.Plain.render.Goals as goal

pub returns-then-is_render_held-clause-waits : goal.returns-then-is_render_held-clause-waits
returns-then-is_render_held-clause-waits c = λ bytes payloads units count.
    render_waits (state_of c.args.self.now) c.args.caller.now c.args.decoder c.args.target c.args.info.now bytes c.in-Ok.on c.in-Ok.ensures payloads units
    (c.in_default.ensures ∙ ap (units_counted c.args.info.now) (sym count)) (sym c.is_render_held.ensures ∙ c.if-is_render_held.true)

pub video_in-requires : goal.video_in-requires
video_in-requires c = ap is_some (render-at (state_of c.args.self.now) c.args.decoder c.args.target c.args.info.now c.in-Ok.on c.in-Ok.ensures).stands.of_target

pub returns-then-not-fits-clause-step : goal.returns-then-not-fits-clause-step
returns-then-not-fits-clause-step c = λ bytes payloads units count handed.
    let s = state_of c.args.self.now in
    let well = subst (λ (o : Outcome). IsHandedIn s c.args.decoder c.args.target c.args.info.now payloads o c.args.picture) (c.fits.ensures.only c.if-not-fits.true) handed in
    absurd (c.fits.ensures.otherwise c.if-not-fits.true (handed_size s c.args.caller.now c.args.decoder c.args.target c.args.info.now bytes c.in-Ok.on c.in-Ok.ensures payloads units (video_of c.video_in.result.now) c.args.picture c.video_in.ensures well))

pub decode_into-requires-clause-place : goal.decode_into-requires-clause-place
decode_into-requires-clause-place c =
    let on = render-at (state_of c.args.self.now) c.args.decoder c.args.target c.args.info.now c.in-Ok.on c.in-Ok.ensures in
    noted_below c.args.self.now c.note.new.self c.args.caller.now c.in-Ok.on.target c.in-Ok.on.target c.args.outcome (was_ok c.note.result _ (sym c.is_err.ensures.value ∙ c.if-is_err.false) c.note.ensures.ok) on.stands.below

pub returns-clause-step : goal.returns-clause-step
returns-clause-step c = λ bytes payloads units count handed.
    let s = state_of c.args.self.now in
    let noted : state_of c.note.new.self ≡ with_note s c.args.caller.now c.in-Ok.on.target c.args.outcome = was_ok c.note.result _ (sym c.is_err.ensures.value ∙ c.if-is_err.false) c.note.ensures.ok in
    inr (render_done s c.args.caller.now c.args.decoder c.args.target c.args.info.now bytes c.in-Ok.on c.in-Ok.ensures payloads units (video_of c.video_in.result.now) c.args.outcome c.args.picture (reply_with (λ nothing. Done) c.answer_of.result)
    (state_of c.note.new.self) (state_of c.decode_into.new.self) c.video_in.ensures (c.in_default.ensures ∙ ap (units_counted c.args.info.now) (sym count)) (sym c.is_render_held.ensures ∙ c.if-is_render_held.false) handed c.answer_of.ensures noted c.decode_into.ensures)
