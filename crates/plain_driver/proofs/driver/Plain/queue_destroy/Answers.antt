use Rattle.std.proofs.Common.{inr}
use Rattle.driver_model.specs.Objects.{as_queue}
use Rattle.plain_driver.specs.States.{state_of}
use Rattle.plain_driver.proofs.Goes.{at_below}
use Rattle.plain_driver.proofs.QueueSteps.{queue_destroyed}
use Rattle.plain_driver.proofs.driver.Plain.queue_destroy.Goals as goal

pub destroy_queue-requires : goal.destroy_queue-requires
destroy_queue-requires c = at_below as_queue c.args.queue c.args.self.now c.in_ok-place.place c.in_ok-place.ensures

pub returns : goal.returns
returns c = λ caller. inr (queue_destroyed (state_of c.args.self.now) c.args.queue c.in_ok-place.place (state_of c.destroy_queue.new.self) c.in_ok-place.ensures c.destroy_queue.ensures)
