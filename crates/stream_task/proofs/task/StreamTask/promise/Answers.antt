use Rattle.std.proofs.Common.{sym, subst}
use Rattle.driver.specs.Passes.{view}
use Rattle.stream_task.specs.Leaving.{Went, behind_call, with_phase}
use Rattle.stream_task.specs.declared.answers.Stepped.{Stepped}
use Rattle.stream_task.specs.declared.phase.Phase.TheVariants as phase
use Rattle.stream_task.specs.declared.task.StreamTask.{StreamTask}
use Rattle.stream_task.proofs.Shown.{promised_went}
use Rattle.stream_task.proofs.task.StreamTask.promise.Goals as goal

pub returns-clause-acted : goal.returns-clause-acted
returns-clause-acted g c = λ of fed ready.
    let start = c.args.self.now in
    let back = c.promise-pass.result in
    let task = with_phase start (phase.Promising c.args.time) in
    let went = promised_went start of fed (view c.args.pass) (view back.pass) back.place c.in-Some.queue c.args.time back.result ready c.in-Some.is c.promise-pass.ensures.adds in
    subst (λ (t : StreamTask). Went t of fed (view c.args.pass) (view back.pass) c.was_promised-answer.result) (sym c.was_promised-answer.ensures.task)
    (subst (λ (a : Stepped). Went (behind_call task (λ nothing. with_phase start phase.Asking) back.result) of fed (view c.args.pass) (view back.pass) a) (sym c.was_promised-answer.ensures.answer) went)
