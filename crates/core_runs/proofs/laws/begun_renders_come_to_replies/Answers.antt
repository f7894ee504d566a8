use Rattle.core_runs.proofs.Deeds as deeds
use Rattle.core_runs.proofs.laws.begun_renders_come_to_replies.Goals as goal

pub returns : goal.returns
returns c = deeds.begun_renders_come_to_replies
