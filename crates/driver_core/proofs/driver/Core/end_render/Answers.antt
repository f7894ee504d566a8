use Rattle.std.proofs.Common.{sym, subst}
use Rattle.driver_core.specs.Ended.{Tells}
use Rattle.driver_core.specs.Owed.{IsOut}
use Rattle.driver_core.specs.declared.answer.CoreAnswer.TheVariants.{Now}
use Rattle.driver_core.proofs.driver.Core.end_render.Goals as goal

pub returns : goal.returns
returns c = (
  subst (λ o. Tells o (Now c.answer_of.result)) c.outcome-outcome.ensures c.answer_of.ensures,
  λ d note stands out comes owes.
      let settled = c.hand_picture.ensures d note stands out (comes, owes) in
      c.forget_job.ensures d note settled.0 (subst (λ n. IsOut d n note) (sym c.number-number.ensures) out) settled.1,
)
