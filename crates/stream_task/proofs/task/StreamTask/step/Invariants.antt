use Rattle.std.proofs.Common.{◌≡◌, Some, IfSome}
use Rattle.driver.specs.Passes.{IsOf, view}
use Rattle.stream_calls.specs.StreamCalls.{Fed, Stream}
use Rattle.stream_task.specs.Keeping.{Ready}
use Rattle.stream_task.specs.Tasks.{verdict_of_task}
use Rattle.stream_task.proofs.task.StreamTask.step.Given as goal

-- Nothing was added yet: the task went on without a call.
abbrev pub invariant-loop : goal.invariant-loop
invariant-loop g l =
    (goal.iterator-loop g).can_next l.iterator'
    × (goal.iterator-loop g).is_finite l.iterator'
    × IsOf l.pass l.fn.driver
    × (view l.pass ≡ view l.fn.pass)
    × ((of : Stream) (fed : Fed) → Ready l.fn.self of fed (view l.fn.pass) → Ready l.self of fed (view l.pass))
    × IfSome (verdict_of_task l.fn.self) (λ verdict. verdict_of_task l.self ≡ Some verdict)
