use Rattle.cavlc.proofs.SizeLemmas.{coefficients_small}
use Rattle.cavlc.proofs.laws.coefficients_are_small.Goals as goal

pub returns : goal.returns
returns c = coefficients_small
