use Rattle.stream_calls.proofs.Holding as holding
use Rattle.stream_calls.proofs.device_laws.names_are_worked.Goals as goal

pub returns : goal.returns
returns c = holding.held_names_are_worked
