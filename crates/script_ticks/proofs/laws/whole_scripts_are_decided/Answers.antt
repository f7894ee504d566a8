use Rattle.script_ticks.proofs.Fronts as proofs
use Rattle.script_ticks.proofs.laws.whole_scripts_are_decided.Goals as goal

pub returns : goal.returns
returns c = proofs.fronts_decide
