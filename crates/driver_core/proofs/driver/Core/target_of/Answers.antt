use Rattle.std.proofs.Common.{rules, ◌≡◌, ℕ, Option, Some, None, IfSome, ◌<◌, length, refl, sym, ◌∙◌, subst}
use Rattle.std.proofs.lemmas.Option.{slice_get_read, slice_get_within}
use Rattle.driver_objects.specs.Jobs.{HasJob}
use Rattle.driver_objects.specs.Kept.{kept_of}
use Rattle.driver_objects.specs.Listed.{IsOnly, is_at}
use Rattle.driver_objects.specs.declared.jobs.OutJob.{OutJob}
use Rattle.driver_objects.proofs.Lists.{element_is}
use Rattle.driver_core.proofs.EndedJobs.{has_job, target_found}
use Rattle.driver_core.proofs.driver.Core.target_of.Goals as goal

pub returns-in-Some-clause-targets : goal.returns-in-Some-clause-targets
returns-in-Some-clause-targets c d note stands out =
    let core = c.args.self.now in
    let has = subst (λ jobs. HasJob jobs c.args.number c.in-Some.at) c.deref.ensures.value c.in-Some.ensures.some in
    let within = slice_get_within core.jobs.items c.in-Some.at has.job has.there in
    let there = slice_get_read core.jobs.items (length core.jobs.items) c.in-Some.at c.index.result.now refl within c.index.ensures in
    let same : c.index.result.now ≡ has.job = element_is c.index.result.now has.job (sym there ∙ has.there) in
    target_found core d stands c.args.number note out c.in-Some.at has c.at.result (subst (λ (job : OutJob). IsOnly (is_at job.target) (kept_of core.objects) c.at.result) same c.at.ensures)

pub returns-in-Some-clause-there : goal.returns-in-Some-clause-there
returns-in-Some-clause-there c = found_within c.at.result c.at.ensures where
  found_within : (result : Option ℕ) → IsOnly (is_at c.index.result.now.target) (kept_of c.args.self.now.objects) result → IfSome result (λ index. index < length (kept_of c.args.self.now.objects))
  found_within None only = search rules
  found_within (Some index) only = slice_get_within (kept_of c.args.self.now.objects) index only.0.object only.0.stands

pub returns-in-None-clause-targets : goal.returns-in-None-clause-targets
returns-in-None-clause-targets c d note stands out i object there its =
    let core = c.args.self.now in
    let has = has_job core d stands c.args.number note out in
    absurd (c.in-None.ensures.none out.index (subst (λ jobs. HasJob jobs c.args.number out.index) (sym c.deref.ensures.value) has))
