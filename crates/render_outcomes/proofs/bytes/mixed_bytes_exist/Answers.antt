use Rattle.render_outcomes.proofs.MixedExist as lemmas
use Rattle.render_outcomes.proofs.bytes.mixed_bytes_exist.Goals as goal

pub returns : goal.returns
returns c = lemmas.mixed_bytes_exist
