use Rattle.driver.specs.Passes.{IsOf}
use Rattle.first_frame.proofs.player.videos.Given as goal

abbrev pub invariant-loop : goal.invariant-loop
invariant-loop g l = IsOf l.pass l.driver
