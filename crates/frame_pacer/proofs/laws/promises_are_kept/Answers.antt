use Rattle.frame_pacer.proofs.Pacing.{promises_are_kept}
use Rattle.frame_pacer.proofs.laws.promises_are_kept.Goals as goal

pub returns : goal.returns
returns c = promises_are_kept
