use Rattle.std.proofs.Common.{inr}
use Rattle.driver_model.specs.Objects.{as_queue}
use Rattle.plain_driver.specs.States.{state_of}
use Rattle.plain_driver.proofs.Goes.{at_below}
use Rattle.plain_driver.proofs.QueueSteps.{queue_promises}
use Rattle.plain_driver.proofs.driver.Plain.promise.Goals as goal

pub promise_in-requires : goal.promise_in-requires
promise_in-requires c = at_below as_queue c.args.queue c.args.self.now c.in_ok-place.place c.in_ok-place.ensures

pub returns : goal.returns
returns c = λ caller. inr (queue_promises (state_of c.args.self.now) c.args.queue c.args.time c.in_ok-place.place (state_of c.promise_in.new.self) c.in_ok-place.ensures c.promise_in.ensures)
