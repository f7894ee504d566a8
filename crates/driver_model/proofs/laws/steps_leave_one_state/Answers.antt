use Rattle.driver_model.proofs.Leading as leading
use Rattle.driver_model.proofs.laws.steps_leave_one_state.Goals as goal

pub returns : goal.returns
returns c = leading.steps_leave_one
