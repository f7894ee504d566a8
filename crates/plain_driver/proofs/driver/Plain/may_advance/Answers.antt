use Rattle.std.proofs.lemmas.Result.{err_from_is_err_and}
use Rattle.driver_model.specs.Objects.{as_device}
use Rattle.plain_driver.specs.States.{device_of, state_of}
use Rattle.plain_driver.proofs.ClockSteps.{advance-err, advance-ok}
use Rattle.plain_driver.proofs.Goes.{at_some}
use Rattle.plain_driver.proofs.driver.Plain.may_advance.Goals as goal

pub device_in-last-requires : goal.device_in-last-requires
device_in-last-requires c = at_some as_device c.args.device (state_of c.args.self.now) c.in_ok-on.on c.in_ok-on.ensures

pub returns-in_err-refused_if : goal.returns-in_err-refused_if
returns-in_err-refused_if c =
    let p = err_from_is_err_and c.from_residual-in_err-refused_if.result c.from_residual-in_err-refused_if.ensures.1 in
    rw (p.1, p.2) (advance-err (state_of c.args.self.now) c.args.device c.args.time c.in_ok-on.on (device_of c.device_in-last.result) c.in_err-refused_if.field-0.0 c.in_ok-on.ensures c.device_in-last.ensures c.in_err-refused_if.ensures)

pub returns : goal.returns
returns c = advance-ok (state_of c.args.self.now) c.args.device c.args.time c.in_ok-on.on (device_of c.device_in-last.result) c.in_ok-on.ensures c.device_in-last.ensures c.in_ok-refused_if.ensures
