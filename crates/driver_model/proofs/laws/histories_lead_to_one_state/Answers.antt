use Rattle.driver_model.proofs.Leading as leading
use Rattle.driver_model.proofs.laws.histories_lead_to_one_state.Goals as goal

pub returns : goal.returns
returns c = record { one = leading.histories_lead_to_one; sizes = leading.histories_have_sizes; fronts = leading.fronts_are_legal; more = leading.histories_go_on }
