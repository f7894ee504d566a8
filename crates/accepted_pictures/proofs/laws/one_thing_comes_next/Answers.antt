use Rattle.accepted_pictures.proofs.OneNext.{one_next}
use Rattle.accepted_pictures.proofs.laws.one_thing_comes_next.Goals as goal

pub returns : goal.returns
returns c = one_next
