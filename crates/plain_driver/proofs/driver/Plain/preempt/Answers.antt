use Rattle.std.proofs.Common.{inr}
use Rattle.driver_model.specs.Objects.{as_device}
use Rattle.plain_driver.specs.States.{device_of, state_of}
use Rattle.plain_driver.proofs.ClockSteps.{device_preempted}
use Rattle.plain_driver.proofs.Goes.{at_below, at_some}
use Rattle.plain_driver.proofs.driver.Plain.preempt.Goals as goal

pub device_in-time-requires : goal.device_in-time-requires
device_in-time-requires c = at_some as_device c.args.device (state_of c.args.self.now) c.in_ok-place.place c.in_ok-place.ensures

pub put-requires : goal.put-requires
put-requires c = at_below as_device c.args.device c.args.self.now c.in_ok-place.place c.in_ok-place.ensures

pub returns : goal.returns
returns c = λ caller. inr (device_preempted (state_of c.args.self.now) c.args.device c.in_ok-place.place (device_of c.device_in-time.result) (state_of c.put.new.self) c.in_ok-place.ensures c.device_in-time.ensures c.put.ensures)
