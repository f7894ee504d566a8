use Rattle.access_units.proofs.SequenceLemmas.{sequences_have_one_set}
use Rattle.access_units.proofs.laws.sequences_have_one_set.Goals as goal

pub returns : goal.returns
returns c = sequences_have_one_set
