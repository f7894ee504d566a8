use Rattle.std.proofs.Common.{sym, subst}
use Rattle.driver.specs.Passes.{view}
use Rattle.stream_task.specs.Leaving.{Went, behind_create, with_device}
use Rattle.stream_task.specs.declared.answers.Stepped.{Stepped}
use Rattle.stream_task.specs.declared.task.StreamTask.{StreamTask}
use Rattle.stream_task.proofs.Opened.{device_went}
use Rattle.stream_task.proofs.task.StreamTask.make_device.Goals as goal

pub returns-clause-went : goal.returns-clause-went
returns-clause-went g c = λ of fed ready.
    let task = c.args.self.now in
    let made = c.device_create-pass.result in
    let went = device_went task of fed (view c.args.pass) (view made.pass) made.place made.result ready c.requires.making c.requires.none c.device_create-pass.ensures.adds in
    subst (λ (t : StreamTask). Went t of fed (view c.args.pass) (view made.pass) c.device_made-answer.result) (sym c.device_made-answer.ensures.task)
    (subst (λ (a : Stepped). Went (behind_create task (with_device task) made.result) of fed (view c.args.pass) (view made.pass) a) (sym c.device_made-answer.ensures.answer) went)
