use Rattle.trace_records.proofs.OwnBytes.{begins_alike, record_long}
use Rattle.trace_records.proofs.laws.records_have_their_bytes.Goals as goal

pub returns : goal.returns
returns c = record { own = begins_alike; long = record_long }
