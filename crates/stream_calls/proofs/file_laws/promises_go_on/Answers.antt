use Rattle.stream_calls.proofs.PromiseSteps as steps
use Rattle.stream_calls.proofs.file_laws.promises_go_on.Goals as goal

pub returns : goal.returns
returns c = record {
  calls = steps.other_calls_promise_nothing;
  promises = steps.promises_go_on;
  behind = steps.promises_go_on_behind;
  displays = steps.displays_add_up;
}
