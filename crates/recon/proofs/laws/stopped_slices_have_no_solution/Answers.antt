use Rattle.recon.proofs.StopLemmas.{stopped_has_none}
use Rattle.recon.proofs.laws.stopped_slices_have_no_solution.Goals as goal

pub returns : goal.returns
returns c = record { none = stopped_has_none }
