use Rattle.script_ticks.proofs.Searches as proofs
use Rattle.script_ticks.proofs.laws.places_are_in_order.Goals as goal

pub returns : goal.returns
returns c = proofs.earlier_ticks_stand_before
