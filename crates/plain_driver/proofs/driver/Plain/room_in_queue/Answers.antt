use Rattle.std.proofs.Common.{ap}
use Rattle.std.specs.Option.{is_some}
use Rattle.std.proofs.lemmas.Result.{err_from_is_err_and}
use Rattle.plain_driver.specs.States.{presentation_of, state_of}
use Rattle.plain_driver.proofs.QueueLooks.{display-err, display-ok, presented-at}
use Rattle.plain_driver.proofs.driver.Plain.room_in_queue.Goals as goal

pub queue_in-requires : goal.queue_in-requires
queue_in-requires c = ap is_some (presented-at (state_of c.args.self.now) c.args.queue c.args.surface c.in_ok-on.on c.in_ok-on.ensures).content

pub returns-in_err-answer_to_display : goal.returns-in_err-answer_to_display
returns-in_err-answer_to_display c =
    let s = state_of c.args.self.now in
    let p = err_from_is_err_and c.from_residual-in_err-answer_to_display.result c.from_residual-in_err-answer_to_display.ensures.1 in
    rw (p.1, p.2) (display-err s c.args.queue c.args.surface c.args.earliest c.in_ok-on.on (presentation_of c.queue_in.result.now) c.in_err-answer_to_display.field-0.0 c.in_ok-on.ensures c.queue_in.ensures c.in_err-answer_to_display.ensures)

pub returns : goal.returns
returns c = display-ok (state_of c.args.self.now) c.args.queue c.args.surface c.args.earliest c.in_ok-on.on (presentation_of c.queue_in.result.now) c.in_ok-on.ensures c.queue_in.ensures c.in_ok-answer_to_display.ensures
