use Rattle.stream_calls.proofs.Holding as holding
use Rattle.stream_calls.proofs.device_laws.others_keep_one_device.Goals as goal

pub returns : goal.returns
returns c = holding.others_keep_one_device
