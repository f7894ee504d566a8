use Rattle.std.proofs.Common.{◌≡◌, ◌∙◌}
use Rattle.driver.specs.Passes.{view}
use Rattle.stream_calls.specs.StreamCalls.{Fed, Stream}
use Rattle.stream_task.specs.Keeping.{Ready}
use Rattle.stream_task.specs.Tasks.{verdict_of_task}
use Rattle.stream_task.proofs.Stepping.{answered, ended_answers, goes_on}
use Rattle.stream_task.proofs.task.StreamTask.step.Goals as goal

pub act-back-requires-clause-ready : goal.act-back-requires-clause-ready
act-back-requires-clause-ready g c κs within =
    (c.requires.ready.0, (c.requires.ready.1.0, c.loop.invariant.4 c.requires.ready.0 c.requires.ready.1.0 c.requires.ready.1.1))

pub returns-in-Some-answer-clause-went : goal.returns-in-Some-answer-clause-went
returns-in-Some-answer-clause-went g c = λ of fed ready.
    answered c.act-back.new.self of fed (view c.args.pass) (view c.loop.pass) (view c.act-back.result.0) c.act-back.result.1 c.in-Some-answer.answer c.in-Some-answer.is c.loop.invariant.3
    (c.act-back.ensures.acted of fed (c.loop.invariant.4 of fed ready))

pub loop-preserved : goal.loop-preserved
loop-preserved g c =
    let told = c.act-back.result.1 in
    let on : (of : Stream) (fed : Fed) → Ready c.args.self.now of fed (view c.args.pass)
    → Ready c.act-back.new.self of fed (view c.act-back.result.0) × (view c.act-back.result.0 ≡ view c.loop.pass) =
    λ of fed ready. goes_on c.act-back.new.self of fed (view c.loop.pass) (view c.act-back.result.0) told c.in_default.is (c.act-back.ensures.acted of fed (c.loop.invariant.4 of fed ready)) in (
      tt,
      tt,
      c.act-back.ensures.of,
      (on c.requires.ready.0 c.requires.ready.1.0 c.requires.ready.1.1).1 ∙ c.loop.invariant.3,
      λ of fed ready. (on of fed ready).0,
      ended_answers (view c.act-back.result.0 ≡ view c.loop.pass) (verdict_of_task c.args.self.now) (verdict_of_task c.loop.self) (verdict_of_task c.act-back.new.self) told c.loop.invariant.5 c.act-back.ensures.ended c.in_default.is,
    )
