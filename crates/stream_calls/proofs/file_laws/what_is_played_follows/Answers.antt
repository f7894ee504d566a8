use Rattle.stream_calls.proofs.PlayedSteps as steps
use Rattle.stream_calls.proofs.file_laws.what_is_played_follows.Goals as goal

pub returns : goal.returns
returns c = steps.what_is_played_follows
