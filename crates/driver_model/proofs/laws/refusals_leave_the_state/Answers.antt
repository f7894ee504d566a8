use Rattle.driver_model.proofs.Leading as leading
use Rattle.driver_model.proofs.laws.refusals_leave_the_state.Goals as goal

pub returns : goal.returns
returns c = record { state = leading.refusals_leave; one = leading.refusals_are_one }
