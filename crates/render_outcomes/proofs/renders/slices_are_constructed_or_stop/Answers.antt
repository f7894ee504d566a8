use Rattle.render_outcomes.proofs.ConstructionsExist as lemmas
use Rattle.render_outcomes.proofs.renders.slices_are_constructed_or_stop.Goals as goal

pub returns : goal.returns
returns c = lemmas.slices_are_constructed_or_stop
