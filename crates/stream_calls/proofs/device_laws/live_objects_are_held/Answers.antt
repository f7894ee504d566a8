use Rattle.stream_calls.proofs.Holding as holding
use Rattle.stream_calls.proofs.device_laws.live_objects_are_held.Goals as goal

pub returns : goal.returns
returns c = holding.live_objects_are_held
