use Rattle.driver.specs.Passes.{IsOf, view}
use Rattle.driver_model.specs.Passes.{AreAtRest}
use Rattle.driver_threads.proofs.callers.call_often.Given as goal

abbrev pub invariant-loop : goal.invariant-loop
invariant-loop g l = IsOf l.pass l.driver × AreAtRest (view l.pass).own
