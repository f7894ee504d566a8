use Rattle.stream_calls.proofs.DisplaySteps as steps
use Rattle.stream_calls.proofs.file_laws.mixes_go_on.Goals as goal

pub returns : goal.returns
returns c = record {
  others = steps.others_leave_mixes;
  calls = steps.other_calls_leave_mixes;
  mixes = steps.mixes_go_on;
}
