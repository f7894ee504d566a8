use Rattle.std.proofs.Common.{sym, ◌∙◌}
use Rattle.driver_objects.specs.Flips.{flipped}
use Rattle.driver.specs.Passes.{view}
use Rattle.call_trace.proofs.FewFlips.{few_made}
use Rattle.call_trace.proofs.recorder.Recorder.advance.Goals as goal

pub put_tick-requires-clause-few : goal.put_tick-requires-clause-few
put_tick-requires-clause-few g c =
    few_made (view c.args.pass) _ _ c.args.device c.args.time (flipped c.advance-answered.new.flips) c.advance-answered.result.result c.advance-answered.ensures.makes.adds (sym c.is_ok.ensures.value ∙ c.if-is_ok.true)
