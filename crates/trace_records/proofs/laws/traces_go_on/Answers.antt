use Rattle.trace_records.proofs.Traces as known
use Rattle.trace_records.proofs.laws.traces_go_on.Goals as goal

pub returns : goal.returns
returns c = known.traces_go_on
