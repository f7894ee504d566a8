use Rattle.stream_calls.proofs.KeptNames as kept
use Rattle.stream_calls.proofs.others_laws.objects_are_kept.Goals as goal

pub returns : goal.returns
returns c = record { mixers = kept.items_keep_mixers; outputs = kept.items_keep_outputs; queues = kept.items_keep_queues }
