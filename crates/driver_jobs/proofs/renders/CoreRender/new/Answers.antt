use Rattle.decoder_render.proofs.RenamedAccepted.{widest_takes}
use Rattle.driver_jobs.proofs.renders.CoreRender.new.Goals as goal

pub invariant_of-result : goal.invariant_of-result
invariant_of-result c = record { ready = widest_takes c.args.info c.requires.info; sized = c.requires.size }
