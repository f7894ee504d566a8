use Rattle.std.proofs.Common.{◌≡◌, ap, sym, ◌∙◌, subst, ℕ}
use Rattle.accepted_pictures.specs.Files.{Decoded}
use Rattle.access_units.specs.declared.acceptor.Unsettled.{Unsettled}
use Rattle.driver.specs.Passes.{view}
use Rattle.driver.specs.declared.driver.Pass.{Pass}
use Rattle.driver_jobs.specs.Renders.{picture_of}
use Rattle.driver_model.specs.Answers.{reply_with}
use Rattle.driver_model.specs.Ends.{IsReplyOfJob, mark_of}
use Rattle.driver_model.specs.Jobs.{reply_of}
use Rattle.driver_model.specs.Passes.{Adds}
use Rattle.driver_model.specs.declared.calls.Call.TheVariants as call
use Rattle.driver_model.specs.declared.replies.Answer.TheVariants.{Done}
use Rattle.stream_calls.specs.Counted.{is_done}
use Rattle.stream_task.specs.Leaving.{Went, behind_refusal, refused_answer, with_phase}
use Rattle.stream_task.specs.declared.answers.Stepped.{Stepped}
use Rattle.stream_task.specs.declared.phase.Phase.TheVariants as phase
use Rattle.stream_task.specs.declared.task.StreamTask.{StreamTask}
use Rattle.stream_task.proofs.Refused.{refused_went}
use Rattle.stream_task.proofs.Rendered.{rendered_went, task_may_render}
use Rattle.stream_task.proofs.Replied.{done_or_not, reply_found}
use Rattle.stream_task.proofs.task.StreamTask.begin.Goals as goal

pub returns-in-Job-clause-went : goal.returns-in-Job-clause-went
returns-in-Job-clause-went g c = λ of fed ready.
    let start = c.args.self.now in
    let begins = c.in-Job.ensures in
    let ends = c.end_render-pass.ensures in
    let about = ready.stands.about in
    let asked = call.Render c.args.decoder c.args.video c.renamed-info.result c.args.picture.submission in
    let reply = reply_with (λ nothing. Done) c.end_render-pass.result.result in
    let replies : IsReplyOfJob (view c.in-Job.job.pass).seen c.in-Job.job.place (view c.in-Job.job.pass).number reply =
    subst (λ (n : ℕ). IsReplyOfJob (view c.in-Job.job.pass).seen n (view c.in-Job.job.pass).number reply) c.run_at_once-done.ensures.place
    (subst (λ (p : Pass). IsReplyOfJob (view p).seen c.run_at_once-done.result.place (view p).number reply) c.run_at_once-done.ensures.pass ends.ends.answers) in
    let same : reply_of begins.outcome ≡ reply = reply_found (view c.args.pass) (view c.in-Job.job.pass) asked (reply_of begins.outcome) reply c.in-Job.job.place (view c.in-Job.job.pass).number begins.adds replies in
    let one : Decoded = record { picture = about.renders.one; samples = picture_of c.run_at_once-done.result.done } in
    rendered_went start c.rendered.new.self of fed (view c.args.pass) (view c.in-Job.job.pass) (view c.end_render-pass.result.pass) c.in-Job.job.place ends.mark c.run_at_once-done.result.place
    c.args.decoder c.args.video c.args.surface c.args.picture c.renamed-info.result c.args.picture.submission begins.outcome c.is_ok.result one ready c.requires.there c.renamed-info.ensures begins.adds
    (subst (λ (p : Pass). Adds (view p) (mark_of (view p) c.run_at_once-done.result.place) ends.mark (view c.end_render-pass.result.pass)) c.run_at_once-done.ensures.pass ends.ends.adds)
    (c.is_ok.ensures.value ∙ (sym (done_or_not c.end_render-pass.result.result) ∙ ap is_done (sym same)))
    (c.rendered.ensures of ready.stands.way one ready.stands.course about.renders.given about.renders.shows.offset)

pub returns-in-Refused-clause-went : goal.returns-in-Refused-clause-went
returns-in-Refused-clause-went g c = λ of fed ready.
    let start = c.args.self.now in
    let refuses = c.in-Refused.ensures in
    let picture : Unsettled = record c.args.picture { submission = c.in-Refused.submission } in
    let same : picture ≡ c.args.picture = ap (λ bytes. record c.args.picture { submission = bytes }) refuses.0 in
    let task = with_phase start (phase.Rendering picture c.args.surface) in
    let asked = call.Render c.args.decoder c.args.video c.renamed-info.result c.args.picture.submission in
    let may = task_may_render start (view c.args.pass).own of.number c.args.decoder c.args.video c.args.surface c.args.picture c.renamed-info.result c.args.picture.submission c.requires.there c.renamed-info.ensures in
    let went = refused_went (with_phase start (phase.Rendering c.args.picture c.args.surface)) of fed (view c.args.pass) (view c.in-Refused.pass) c.in-Refused.place asked c.in-Refused.refusal ready tt refuses.1.adds may in
    let went_so = subst (λ (p : Unsettled). Went (behind_refusal (with_phase start (phase.Rendering p c.args.surface)) c.in-Refused.refusal) of fed (view c.args.pass) (view c.in-Refused.pass) (refused_answer c.in-Refused.refusal)) (sym same) went in
    subst (λ (t : StreamTask). Went t of fed (view c.args.pass) (view c.in-Refused.pass) c.refused-answer.result) (sym c.refused-answer.ensures.task)
    (subst (λ (a : Stepped). Went (behind_refusal task c.in-Refused.refusal) of fed (view c.args.pass) (view c.in-Refused.pass) a) (sym c.refused-answer.ensures.answer) went_so)
