use Rattle.driver_model.specs.Clock.{destroyed_on}
use Rattle.plain_driver.proofs.Loops.{IsUpTo}
use Rattle.plain_driver.proofs.devices.destroy_on.Given as goal

abbrev pub invariant-loop-object : goal.invariant-loop-object
invariant-loop-object l = IsUpTo (destroyed_on l.on) l.object-index l.initial.object-items l.object-items
