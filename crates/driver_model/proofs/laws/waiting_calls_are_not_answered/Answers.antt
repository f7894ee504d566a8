use Rattle.driver_model.proofs.Waiting as waiting
use Rattle.driver_model.proofs.laws.waiting_calls_are_not_answered.Goals as goal

pub returns : goal.returns
returns c = waiting.waiting_calls_are_not_answered
