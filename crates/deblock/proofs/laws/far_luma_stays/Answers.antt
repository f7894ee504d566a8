use Rattle.deblock.proofs.Far as proof
use Rattle.deblock.proofs.laws.far_luma_stays.Goals as goal

pub returns : goal.returns
returns c = proof.far_luma_stays
