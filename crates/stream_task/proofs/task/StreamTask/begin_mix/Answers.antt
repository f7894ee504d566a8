use Rattle.std.proofs.Common.{sym, subst}
use Rattle.driver.specs.Passes.{view}
use Rattle.driver.specs.declared.driver.Pass.{Pass}
use Rattle.driver_model.specs.Ends.{mark_of}
use Rattle.driver_model.specs.Passes.{Adds}
use Rattle.driver_model.specs.declared.calls.Call.TheVariants as call
use Rattle.stream_task.specs.Keeping.{names_held}
use Rattle.stream_task.specs.Leaving.{Went, behind_refusal}
use Rattle.stream_task.specs.declared.answers.Stepped.{Stepped}
use Rattle.stream_task.specs.declared.task.StreamTask.{StreamTask}
use Rattle.stream_task.proofs.Bounds.{IsGoing}
use Rattle.stream_task.proofs.Mixed.{may_mix, mixed_went}
use Rattle.stream_task.proofs.Names.{place_held}
use Rattle.stream_task.proofs.Refused.{refused_went}
use Rattle.stream_task.proofs.task.StreamTask.begin_mix.Goals as goal

pub returns-in-Job-clause-went : goal.returns-in-Job-clause-went
returns-in-Job-clause-went g c = λ of fed ready.
    let task = c.args.self.now in
    let begins = c.in-Job.ensures in
    let ends = c.end_mix-pass.ensures in
    mixed_went task of fed (view c.args.pass) (view c.in-Job.job.pass) (view c.end_mix-pass.result.pass) c.in-Job.job.place ends.mark c.run-done.result.place c.args.mixer c.args.surface c.args.time c.args.video c.args.output begins.outcome c.release.new.self
    ready c.requires.phase c.requires.mixer c.requires.video c.requires.output c.requires.size begins.adds
    (subst (λ (p : Pass). Adds (view p) (mark_of (view p) c.run-done.result.place) ends.mark (view c.end_mix-pass.result.pass)) c.run-done.ensures.pass ends.ends.adds) c.release.ensures.of_number c.release.ensures.waits

pub returns-in-Refused-clause-went : goal.returns-in-Refused-clause-went
returns-in-Refused-clause-went g c = λ of fed ready.
    let task = c.args.self.now in
    let refuses = c.in-Refused.ensures in
    let going = subst IsGoing (sym c.requires.phase) tt in
    let may = may_mix (view c.args.pass).own of.number (names_held task.objects) c.args.mixer 0 c.args.video.name c.args.output.name (place_held task.objects 1 _ c.requires.mixer) (place_held task.objects _ c.args.video c.requires.video) (place_held task.objects _ c.args.output c.requires.output) in
    let went = refused_went task of fed (view c.args.pass) (view c.in-Refused.pass) c.in-Refused.place (call.Mix c.args.mixer 0 c.args.video.name c.args.output.name) c.in-Refused.refusal ready going refuses.adds may in
    subst (λ (t : StreamTask). Went t of fed (view c.args.pass) (view c.in-Refused.pass) c.refused-answer.result) (sym c.refused-answer.ensures.task)
    (subst (λ (a : Stepped). Went (behind_refusal task c.in-Refused.refusal) of fed (view c.args.pass) (view c.in-Refused.pass) a) (sym c.refused-answer.ensures.answer) went)
