use Rattle.render_outcomes.proofs.PackedExist as lemmas
use Rattle.render_outcomes.proofs.bytes.packed_pictures_exist.Goals as goal

pub returns : goal.returns
returns c = lemmas.packed_pictures_exist
