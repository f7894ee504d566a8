use Rattle.std.proofs.Common.{◌∙◌}
use Rattle.driver_core.proofs.Out.{out_by_jobs}
use Rattle.driver_core.proofs.driver.Core.is_out.Goals as goal

pub returns : goal.returns
returns c d stands = rw c.deref.ensures.value at c.writes.ensures ∙ out_by_jobs c.args.self.now d stands c.args.place
