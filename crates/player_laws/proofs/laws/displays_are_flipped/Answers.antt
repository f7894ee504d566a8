use Rattle.player_laws.proofs.QueueRuns as runs
use Rattle.player_laws.proofs.laws.displays_are_flipped.Goals as goal

pub returns : goal.returns
returns c = runs.displays_are_flipped
