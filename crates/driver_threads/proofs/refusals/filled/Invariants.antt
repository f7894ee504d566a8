use Rattle.driver.specs.Passes.{IsOf}
use Rattle.driver_threads.proofs.refusals.filled.Given as goal

abbrev pub invariant-loop : goal.invariant-loop
invariant-loop g l = IsOf l.pass l.driver
