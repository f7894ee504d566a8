use Rattle.std.proofs.Common.{arith}
use Rattle.stream_course.proofs.Turns.{promised_if}
use Rattle.stream_course.proofs.course.Course.promise.Goals as goal

pub returns-clause-promised : goal.returns-clause-promised
returns-clause-promised c =
    let fits = c.due-time.type_inv in
    promised_if c.args.self.now c.promise_to.new.self c.promise_to.result c.due-time.result (omega (arith, fits)) c.due-time.ensures c.promise_to.ensures.same c.promise_to.ensures.later c.promise_to.ensures.kept
