use Rattle.stream_calls.proofs.DisplaySteps as steps
use Rattle.stream_calls.proofs.file_laws.displays_go_on.Goals as goal

pub returns : goal.returns
returns c = record {
  others = steps.others_display_nothing;
  calls = steps.other_calls_display_nothing;
  displays = steps.displays_go_on;
  counted = steps.displays_are_counted;
}
