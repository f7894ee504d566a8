use Rattle.deblock.proofs.Unfiltered as proof
use Rattle.deblock.proofs.laws.unfiltered_planes_stay.Goals as goal

pub returns : goal.returns
returns c = proof.unfiltered_planes_stay
