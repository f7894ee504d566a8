use Rattle.script_ticks.proofs.Searches as proofs
use Rattle.script_ticks.proofs.laws.searches_go_on.Goals as goal

pub returns : goal.returns
returns c = record { found = proofs.later_searches_go_on; none = proofs.no_later_ticks }
