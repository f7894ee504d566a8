use Rattle.core_runs.proofs.Deeds as deeds
use Rattle.core_runs.proofs.laws.answers_are_replies.Goals as goal

pub returns : goal.returns
returns g c = deeds.answers_are_replies _
