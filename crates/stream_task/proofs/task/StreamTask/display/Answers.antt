use Rattle.std.proofs.Common.{sym, subst, ◌∙◌, ◌+◌, None}
use Rattle.driver.specs.Passes.{view}
use Rattle.stream_task.specs.Leaving.{Went, behind_call, displayed, with_phase}
use Rattle.stream_task.specs.declared.answers.Stepped.{Stepped}
use Rattle.stream_task.specs.declared.phase.Phase.TheVariants as phase
use Rattle.stream_task.specs.declared.task.StreamTask.{StreamTask}
use Rattle.stream_task.proofs.Names.{got}
use Rattle.stream_task.proofs.Shown.{displayed_went}
use Rattle.stream_task.proofs.task.StreamTask.display.Goals as goal

pub returns-clause-went : goal.returns-clause-went
returns-clause-went g c = λ of fed ready.
    let start = c.args.self.now in
    let back = c.queue_display-pass.result in
    let task = with_phase start (phase.Displaying c.args.time) in
    let went = displayed_went start of fed (view c.args.pass) (view back.pass) back.place c.in-Some-Some.queue c.args.time c.in-Some-Some.output back.result ready c.in-Some-Some.is-0 (got start.objects.made (36 + start.turn) c.at-output.result None c.at-output.ensures ∙ c.in-Some-Some.is-1) c.queue_display-pass.ensures.adds in
    subst (λ (t : StreamTask). Went t of fed (view c.args.pass) (view back.pass) c.was_displayed-answer.result) (sym c.was_displayed-answer.ensures.task)
    (subst (λ (a : Stepped). Went (behind_call task (λ nothing. displayed task) back.result) of fed (view c.args.pass) (view back.pass) a) (sym c.was_displayed-answer.ensures.answer) went)
