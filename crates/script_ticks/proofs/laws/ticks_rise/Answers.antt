use Rattle.script_ticks.proofs.Searches as proofs
use Rattle.script_ticks.proofs.laws.ticks_rise.Goals as goal

pub returns : goal.returns
returns c = proofs.ticks_rise
