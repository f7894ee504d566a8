use Rattle.render_outcomes.proofs.OutcomesExist as lemmas
use Rattle.render_outcomes.proofs.renders.outcomes_exist.Goals as goal

pub returns : goal.returns
returns c = lemmas.outcomes_exist
