use Rattle.stream_calls.proofs.NextItem as next
use Rattle.stream_calls.proofs.device_laws.own_calls_keep_one_device.Goals as goal

pub returns : goal.returns
returns c = next.own_calls_keep_one_device
