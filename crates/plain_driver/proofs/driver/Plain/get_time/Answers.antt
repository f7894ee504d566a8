use Rattle.std.proofs.Common.{inr}
use Rattle.plain_driver.specs.States.{state_of}
use Rattle.plain_driver.proofs.QueueSteps.{time_is}
use Rattle.plain_driver.proofs.driver.Plain.get_time.Goals as goal

pub returns : goal.returns
returns c = λ caller. inr (rw (c.time_of.ensures, c.device_at.ensures) (time_is (state_of c.args.self.now) c.args.queue c.in_ok-place.place c.in_ok-place.ensures))
