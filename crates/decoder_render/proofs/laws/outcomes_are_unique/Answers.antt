use Rattle.decoder_render.proofs.OneOutcome.{outcome_one, whole_one}
use Rattle.decoder_render.proofs.laws.outcomes_are_unique.Goals as goal

pub returns : goal.returns
returns c = record {
  outcome = λ g units a b p q accepted limits is also. outcome_one g units accepted limits a b p q is also;
  samples = λ g units p q accepted limits is also. whole_one g units accepted limits p q is also;
}
