use Rattle.stream_calls.proofs.NoCalls as calls
use Rattle.stream_calls.proofs.laws.feeding_keeps_stream_calls.Goals as goal

pub returns : goal.returns
returns c = calls.feeding_keeps_stream_calls
