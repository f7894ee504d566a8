use Rattle.stream_calls.proofs.NoCalls as calls
use Rattle.stream_calls.proofs.laws.no_calls_are_a_streams.Goals as goal

pub returns : goal.returns
returns c = calls.no_calls_are_a_streams
