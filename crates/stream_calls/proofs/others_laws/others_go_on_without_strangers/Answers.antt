use Rattle.stream_calls.proofs.OthersGo as go
use Rattle.stream_calls.proofs.others_laws.others_go_on_without_strangers.Goals as goal

pub returns : goal.returns
returns c = go.no_strangers_go_on
