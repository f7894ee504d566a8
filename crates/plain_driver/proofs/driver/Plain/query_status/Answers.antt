use Rattle.std.proofs.Common.{inr}
use Rattle.plain_driver.specs.States.{state_of}
use Rattle.plain_driver.proofs.QueueSteps.{status_is}
use Rattle.plain_driver.proofs.driver.Plain.query_status.Goals as goal

pub returns : goal.returns
returns c = λ caller. inr (rw (c.status_at.ensures, c.first_time.ensures) (status_is (state_of c.args.self.now) c.args.queue c.args.surface c.in_ok-on.on c.in_ok-on.ensures))
