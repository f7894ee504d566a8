use Rattle.std.proofs.Common.{sym, subst}
use Rattle.driver.specs.Passes.{view}
use Rattle.stream_task.specs.Leaving.{Went, behind_create, with_queue}
use Rattle.stream_task.specs.declared.answers.Stepped.{Stepped}
use Rattle.stream_task.specs.declared.task.StreamTask.{StreamTask}
use Rattle.stream_task.proofs.Opened.{queue_went}
use Rattle.stream_task.proofs.task.StreamTask.make_queue.Goals as goal

pub returns-clause-went : goal.returns-clause-went
returns-clause-went g c = λ of fed ready.
    let task = c.args.self.now in
    let made = c.queue_create-pass.result in
    let went = queue_went task of fed (view c.args.pass) (view made.pass) made.place c.args.device made.result ready c.requires.making c.requires.device c.requires.none c.queue_create-pass.ensures.adds in
    subst (λ (t : StreamTask). Went t of fed (view c.args.pass) (view made.pass) c.queue_made-answer.result) (sym c.queue_made-answer.ensures.task)
    (subst (λ (a : Stepped). Went (behind_create task (with_queue task) made.result) of fed (view c.args.pass) (view made.pass) a) (sym c.queue_made-answer.ensures.answer) went)
