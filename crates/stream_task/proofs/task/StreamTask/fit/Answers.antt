use Rattle.std.proofs.Common.{sym, subst, ◌∙◌, None, Some}
use Rattle.driver.specs.Passes.{view}
use Rattle.stream_task.specs.Leaving.{Went, behind_call, behind_create, with_place}
use Rattle.stream_task.specs.Places.{index_of}
use Rattle.stream_task.specs.declared.answers.Stepped.{Stepped}
use Rattle.stream_task.specs.declared.task.StreamTask.{StreamTask}
use Rattle.stream_task.proofs.Names.{got}
use Rattle.stream_task.proofs.Placed.{destroyed_went, made_went}
use Rattle.stream_task.proofs.task.StreamTask.fit.Goals as goal

pub returns-in-Some-clause-went : goal.returns-in-Some-clause-went
returns-in-Some-clause-went g c = λ of fed ready.
    let task = c.args.self.now in
    let back = c.destroy-pass.result in
    let there = got task.objects.made (index_of c.args.place) c.at.result None c.at.ensures ∙ c.in-Some.is in
    let went = destroyed_went task of fed (view c.args.pass) (view back.pass) back.place c.args.device c.args.place c.args.size c.in-Some.other back.result ready c.requires.device c.requires.queue c.requires.wanted there c.destroy-pass.ensures.adds in
    subst (λ (t : StreamTask). Went t of fed (view c.args.pass) (view back.pass) c.destroyed-answer.result) (sym c.destroyed-answer.ensures.task)
    (subst (λ (a : Stepped). Went (behind_call task (λ nothing. with_place task c.args.place None) back.result) of fed (view c.args.pass) (view back.pass) a) (sym c.destroyed-answer.ensures.answer) went)

pub returns-clause-went : goal.returns-clause-went
returns-clause-went g c = λ of fed ready.
    let task = c.args.self.now in
    let back = c.create-pass.result in
    let there = got task.objects.made (index_of c.args.place) c.at.result None c.at.ensures ∙ c.in_default.is in
    let went = made_went task of fed (view c.args.pass) (view back.pass) back.place c.args.device c.args.place c.args.size back.result ready c.requires.device c.requires.queue c.requires.wanted c.requires.limits there c.create-pass.ensures.adds in
    subst (λ (t : StreamTask). Went t of fed (view c.args.pass) (view back.pass) c.made-answer.result) (sym c.made-answer.ensures.task)
    (subst (λ (a : Stepped). Went (behind_create task (λ name. with_place task c.args.place (Some (record { name = name; size = c.args.size }))) back.result) of fed (view c.args.pass) (view back.pass) a) (sym c.made-answer.ensures.answer) went)
