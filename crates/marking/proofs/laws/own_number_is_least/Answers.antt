use Rattle.marking.proofs.NumberLemmas.{free_number_is_least}
use Rattle.marking.proofs.laws.own_number_is_least.Goals as goal

pub returns : goal.returns
returns c = free_number_is_least
