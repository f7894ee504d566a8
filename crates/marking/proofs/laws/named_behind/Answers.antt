use Rattle.marking.proofs.NamedLemmas.{named_behind}
use Rattle.marking.proofs.laws.named_behind.Goals as goal

pub returns : goal.returns
returns c = named_behind
