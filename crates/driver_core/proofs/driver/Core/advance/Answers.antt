use Rattle.std.proofs.Common.{Result, ap, ◌∙◌, subst}
use Rattle.vd_status.specs.declared.refusal.Refusal.{Refusal}
use Rattle.driver_model.specs.declared.calls.Call.TheVariants.{Advance}
use Rattle.driver_model.specs.declared.replies.Answer.TheVariants.{Flips as FlipsAnswer}
use Rattle.driver_objects.specs.Flips.{flipped}
use Rattle.driver_objects.specs.declared.flips.Flips.{Flips}
use Rattle.driver_core.specs.Answered.{IsAnswer}
use Rattle.driver_core.specs.declared.answer.CoreAnswer.{CoreAnswer}
use Rattle.driver_core.specs.declared.answer.CoreAnswer.TheVariants.{Now}
use Rattle.driver_core.proofs.driver.Core.advance.Goals as goal

pub returns-in-Now-Ok-clause-calls : goal.returns-in-Now-Ok-clause-calls
returns-in-Now-Ok-clause-calls c d caller stands =
    subst (λ (r : CoreAnswer Flips). IsAnswer c.show.new.self d caller (Advance c.args.device c.args.time) (λ flips. FlipsAnswer (flipped flips)) r)
    (c.in-Now-Ok.is ∙ ap (λ (r : Result Flips Refusal). Now r) c.in-Now-Ok.field-0-is) (c.show.ensures d caller stands)

pub returns-in-Now-Err-clause-calls : goal.returns-in-Now-Err-clause-calls
returns-in-Now-Err-clause-calls c d caller stands =
    subst (λ (r : CoreAnswer Flips). IsAnswer c.show.new.self d caller (Advance c.args.device c.args.time) (λ flips. FlipsAnswer (flipped flips)) r)
    (c.in-Now-Err.is ∙ ap (λ (r : Result Flips Refusal). Now r) c.in-Now-Err.field-0-is) (c.show.ensures d caller stands)

pub returns-in-Later-clause-calls : goal.returns-in-Later-clause-calls
returns-in-Later-clause-calls c d caller stands =
    subst (λ (r : CoreAnswer Flips). IsAnswer c.show.new.self d caller (Advance c.args.device c.args.time) (λ flips. FlipsAnswer (flipped flips)) r)
    c.in-Later.is (c.show.ensures d caller stands)
