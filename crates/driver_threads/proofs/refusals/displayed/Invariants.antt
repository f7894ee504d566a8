use Rattle.driver.specs.Passes.{IsOf}
use Rattle.driver_threads.proofs.refusals.displayed.Given as goal

abbrev pub invariant-loop-time : goal.invariant-loop-time
invariant-loop-time g l = IsOf l.pass l.driver
