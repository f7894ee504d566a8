use Rattle.std.proofs.Common.{remove, refl, sym, ap, ◌∙◌, subst}
use Rattle.driver_objects.specs.Jobs.{HasJob}
use Rattle.driver_core.proofs.EndedJobs.{fewer_sound, forgotten_stands, has_job, job_is}
use Rattle.driver_core.proofs.driver.Core.forget_job.Goals as goal

pub invariant_of-self : goal.invariant_of-self
invariant_of-self c = rw (c.remove_job.ensures) (record { sound = fewer_sound c.args.self.now c.in-Some.at })

pub returns-in-Some : goal.returns-in-Some
returns-in-Some c d note stands out home =
    let core = c.args.self.now in
    let has = subst (λ jobs. HasJob jobs c.args.number c.in-Some.at) c.deref.ensures.value c.in-Some.ensures.some in
    forgotten_stands core d stands c.args.number note out home _ refl refl
    (c.remove_job.ensures ∙ ap (remove core.jobs.items) (job_is core d stands c.args.number note out c.in-Some.at has))

pub returns-in_default : goal.returns-in_default
returns-in_default c d note stands out home =
    let core = c.args.self.now in
    let has = has_job core d stands c.args.number note out in
    absurd (c.in_default.ensures.none out.index (subst (λ jobs. HasJob jobs c.args.number out.index) (sym c.deref.ensures.value) has))
