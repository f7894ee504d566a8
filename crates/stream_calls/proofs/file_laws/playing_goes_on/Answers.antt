use Rattle.stream_calls.proofs.PlayedSteps as steps
use Rattle.stream_calls.proofs.file_laws.playing_goes_on.Goals as goal

pub returns : goal.returns
returns c = record {
  none = steps.no_calls_play_nothing;
  others = steps.others_play_nothing;
  calls = steps.other_calls_play_nothing;
  renders = steps.renders_are_played;
  displays = steps.displays_are_played;
}
