use Rattle.std.proofs.Common.{refl, sym, subst}
use Rattle.driver_core.specs.Owed.{IsOut}
use Rattle.driver_core.proofs.driver.Core.end_mix.Goals as goal

pub returns : goal.returns
returns c = (
  refl,
  λ d note stands out comes owes.
      let settled = c.hand_pixels.ensures d note stands out (comes, owes) in
      c.forget_job.ensures d note settled.0 (subst (λ n. IsOut d n note) (sym c.number-number.ensures) out) settled.1,
)
