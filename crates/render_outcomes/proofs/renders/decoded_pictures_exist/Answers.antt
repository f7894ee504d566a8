use Rattle.render_outcomes.proofs.OutcomesExist as lemmas
use Rattle.render_outcomes.proofs.renders.decoded_pictures_exist.Goals as goal

pub returns : goal.returns
returns c = lemmas.decoded_pictures_exist
