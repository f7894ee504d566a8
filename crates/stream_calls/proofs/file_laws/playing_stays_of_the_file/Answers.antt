use Rattle.stream_calls.proofs.PlayedSteps as steps
use Rattle.stream_calls.proofs.file_laws.playing_stays_of_the_file.Goals as goal

pub returns : goal.returns
returns c = record {
  none = steps.nothing_is_of_each_file;
  calls = steps.other_calls_stay_of_the_file;
  promises = steps.promises_stay_of_the_file;
}
