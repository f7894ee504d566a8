use Rattle.driver.specs.Passes.{IsOf, view}
use Rattle.driver_model.specs.Passes.{AreAtRest}
use Rattle.first_frame.proofs.show.Given as goal

abbrev pub invariant-loop-place : goal.invariant-loop-place
invariant-loop-place g l = IsOf l.pass l.player.driver × AreAtRest (view l.pass).own

abbrev pub invariant-loop-output : goal.invariant-loop-output
invariant-loop-output g l =
    (goal.iterator-loop-output g).can_next l.output-iterator ×
    (goal.iterator-loop-output g).is_finite l.output-iterator ×
    IsOf l.pass l.player.driver × AreAtRest (view l.pass).own
