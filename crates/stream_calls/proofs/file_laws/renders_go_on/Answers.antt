use Rattle.stream_calls.proofs.RenderSteps as steps
use Rattle.stream_calls.proofs.file_laws.renders_go_on.Goals as goal

pub returns : goal.returns
returns c = record {
  others = steps.others_render_nothing;
  calls = steps.other_calls_render_nothing;
  renders = steps.renders_go_on;
  counted = steps.renders_are_counted;
}
