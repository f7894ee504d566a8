use Rattle.stream_calls.proofs.LittleMade as made
use Rattle.stream_calls.proofs.device_laws.streams_make_little.Goals as goal

pub returns : goal.returns
returns c = made.streams_make_little
