use Rattle.driver.specs.Passes.{IsOf}
use Rattle.first_frame.specs.Stream.{IsReady}
use Rattle.first_frame.proofs.decode.Given as goal

abbrev pub invariant-loop-output : goal.invariant-loop-output
invariant-loop-output g l = IsOf l.pass l.player.driver × IsReady l.stream
