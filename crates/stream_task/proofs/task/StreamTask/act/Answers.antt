use Rattle.std.proofs.Common.{sym, subst, ◌∙◌}
use Rattle.driver.specs.Passes.{view}
use Rattle.stream_task.specs.Leaving.{Went, ended_with}
use Rattle.stream_task.specs.declared.answers.Stepped.{Stepped}
use Rattle.stream_task.specs.declared.phase.Phase.TheVariants as phase
use Rattle.stream_task.specs.declared.task.StreamTask.{StreamTask}
use Rattle.stream_task.proofs.Acting.{asking_so, ended_still, ready_in}
use Rattle.stream_task.proofs.task.StreamTask.act.Goals as goal

pub render-pass-requires-clause-ready : goal.render-pass-requires-clause-ready
render-pass-requires-clause-ready g c κs within =
    (c.requires.ready.0, (c.requires.ready.1.0, ready_in c.args.self.now c.requires.ready.0 c.requires.ready.1.0 (view c.args.pass) (phase.Rendering c.in-Rendering.picture c.in-Rendering.surface) (sym c.replace.ensures.value ∙ c.in-Rendering.is) c.requires.ready.1.1))

pub mix-pass-requires-clause-ready : goal.mix-pass-requires-clause-ready
mix-pass-requires-clause-ready g c =
    (c.requires.ready.0, (c.requires.ready.1.0, ready_in c.args.self.now c.requires.ready.0 c.requires.ready.1.0 (view c.args.pass) (phase.Mixing c.in-Mixing.surface c.in-Mixing.time) (sym c.replace.ensures.value ∙ c.in-Mixing.is) c.requires.ready.1.1))

pub ask-requires-clause-asking : goal.ask-requires-clause-asking
ask-requires-clause-asking g c = c.replace.ensures.after

pub ask-requires-clause-ready : goal.ask-requires-clause-ready
ask-requires-clause-ready g c = (
  c.requires.ready.0,
  (
    c.requires.ready.1.0,
    (
      view c.args.pass,
      asking_so c.args.self.now c.requires.ready.0 c.requires.ready.1.0 (view c.args.pass) c.replace.new.dest (sym c.replace.ensures.value ∙ c.in-Asking.is) c.replace.ensures.after c.requires.ready.1.1,
    ),
  ),
)

pub returns-in-Asking-clause-acted : goal.returns-in-Asking-clause-acted
returns-in-Asking-clause-acted g c = λ of fed ready.
    c.ask.ensures of fed (view c.args.pass) (asking_so c.args.self.now of fed (view c.args.pass) c.replace.new.dest (sym c.replace.ensures.value ∙ c.in-Asking.is) c.replace.ensures.after ready)

pub returns-in-Rendering-clause-acted : goal.returns-in-Rendering-clause-acted
returns-in-Rendering-clause-acted g c = λ of fed ready.
    c.render-pass.ensures.went of fed (ready_in c.args.self.now of fed (view c.args.pass) (phase.Rendering c.in-Rendering.picture c.in-Rendering.surface) (sym c.replace.ensures.value ∙ c.in-Rendering.is) ready)

pub returns-in-Mixing-clause-acted : goal.returns-in-Mixing-clause-acted
returns-in-Mixing-clause-acted g c = λ of fed ready.
    c.mix-pass.ensures.went of fed (ready_in c.args.self.now of fed (view c.args.pass) (phase.Mixing c.in-Mixing.surface c.in-Mixing.time) (sym c.replace.ensures.value ∙ c.in-Mixing.is) ready)

pub returns-in-Displaying-clause-acted : goal.returns-in-Displaying-clause-acted
returns-in-Displaying-clause-acted g c = λ of fed ready.
    c.display-pass.ensures.went of fed (ready_in c.args.self.now of fed (view c.args.pass) (phase.Displaying c.in-Displaying.time) (sym c.replace.ensures.value ∙ c.in-Displaying.is) ready)

pub returns-in-Done-clause-acted : goal.returns-in-Done-clause-acted
returns-in-Done-clause-acted g c = λ of fed ready.
    let still = ended_still c.args.self.now of fed (view c.args.pass) c.in-Done.verdict (sym c.replace.ensures.value ∙ c.in-Done.is) ready in
    subst (λ (t : StreamTask). Went t of fed (view c.args.pass) (view c.args.pass) c.end_with.result) (sym c.end_with.ensures.task)
    (subst (λ (a : Stepped). Went (ended_with c.args.self.now c.in-Done.verdict) of fed (view c.args.pass) (view c.args.pass) a) (sym c.end_with.ensures.answer) still)
