-- A job that was out isn't any more.
use Rattle.std.proofs.Common.{◌≡◌, ◌≢◌, ℕ, ◌==◌, ◌&&◌, Bool, true, false, not, map, remove, slice_get, Option, Some, None, refl, sym, ap, ◌∙◌, subst, arith}
use Rattle.std.specs.List.{list_any}
use Rattle.std.proofs.lemmas.Bool.Decides.{nat_tests}
use Rattle.device_lock.proofs.Callers.{same_self}
use Rattle.decoder_render.specs.declared.outcome.Outcome.{Outcome}
use Rattle.decoder_render.specs.declared.outcome.Outcome.TheVariants as outcome
use Rattle.driver_model.specs.Objects as model
use Rattle.driver_model.specs.States.{Note, State, is_note_of, without_note}
use Rattle.driver_objects.specs.Jobs.{HasJob}
use Rattle.driver_objects.specs.Kept.{IsGiven, kept_of, made_of}
use Rattle.driver_objects.specs.Listed.{IsOnly, is_at}
use Rattle.driver_objects.specs.declared.object.Object.{Object}
use Rattle.driver_objects.specs.declared.jobs.OutJob.{OutJob}
use Rattle.driver_objects.proofs.Filters.{get_remove}
use Rattle.driver_objects.proofs.JobLists.{filter_only, map_remove, one_index}
use Rattle.driver_objects.proofs.Lists.{element_is}
use Rattle.driver_objects.proofs.Maps.{get_map, map_get}
use Rattle.driver_objects.proofs.Removed.{any_remove}
use Rattle.driver_core.specs.Jobs.{IsHome, IsTarget, Targets}
use Rattle.driver_core.specs.Owed.{IsOut}
use Rattle.driver_core.specs.Sound.{IsSound}
use Rattle.driver_core.specs.Stands.{IsContent, Stands, is_ok, is_owed, told_by, told_of}
use Rattle.driver_core.specs.declared.driver.Core.{Core}
use Rattle.driver_core.proofs.OwedContent.{content_owed}

-- a job less is sound
pub fewer_sound : (core : Core) (at : ℕ) → IsSound (kept_of core.objects) (made_of core.objects) core.queues (remove core.jobs.items at)
fewer_sound core at = let s = core.sound in record {
  kinds = s.kinds;
  videos = s.videos;
  outputs = s.outputs;
  decoders = s.decoders;
  mixers = s.mixers;
  devices = s.devices;
  own = s.own;
  named = s.named;
  limits = s.limits;
  numbers = s.numbers;
  numbers_apart = s.numbers_apart;
  unused = s.unused;
  holders = s.holders;
  holders_apart = s.holders_apart;
  surfaces = s.surfaces;
  targets = λ i job there. let k = get_remove core.jobs.items at i job there in s.targets k.0 job k.1;
}

module _ (core : Core) (d : State) (stands : Stands core d) (number : ℕ) (note : Note) (out : IsOut d number note) where
  -- what is kept of the job
  pub job_there : (job : OutJob) × (slice_get core.jobs.items out.index ≡ Some job) × (job.number ≡ number) × (job.target ≡ note.target)
  job_there =
      let told = subst (λ ts. slice_get ts out.index ≡ Some (told_of note)) (sym stands.jobs) (map_get told_of d.notes out.index note out.there) in
      let job = get_map told_by core.jobs.items out.index (told_of note) told in
      (job.0, job.1, ap (λ (t : ℕ × ℕ). t.0) job.2 ∙ out.numbered, ap (λ (t : ℕ × ℕ). t.1) job.2)

  pub has_job : HasJob core.jobs.items number out.index
  has_job = record { job = job_there.0; there = job_there.1; numbered = job_there.2 }

  -- a job of this number is that one
  pub job_is : (at : ℕ) → HasJob core.jobs.items number at → at ≡ out.index
  job_is at has =
      let told = subst (λ ts. slice_get ts at ≡ Some (told_by has.job)) stands.jobs (map_get told_by core.jobs.items at has.job has.there) in
      let other = get_map told_of d.notes at (told_by has.job) told in
      one_index (λ (n : Note). n.number) d.notes out.numbers at out.index other.0 note other.1 out.there (ap (λ (t : ℕ × ℕ). t.0) other.2 ∙ (has.numbered ∙ sym out.numbered))

  pub target_is : (at : ℕ) (has : HasJob core.jobs.items number at) → has.job.target ≡ note.target
  target_is at has =
      let there = subst (λ i. slice_get core.jobs.items i ≡ Some has.job) (job_is at has) has.there in
      let same : has.job ≡ job_there.0 = element_is has.job job_there.0 (sym there ∙ job_there.1) in
      ap (λ (j : OutJob). j.target) same ∙ job_there.3

  abbrev new : State
  new = without_note d note.caller note.place

  notes_are : new.notes ≡ remove d.notes out.index
  notes_are =
      let self = same_self note.caller in
      filter_only (λ n. not (is_note_of note.caller note.place n)) d.notes out.index note out.there (grind (arith, nat_tests, self))
      (λ j other there apart. let differs : other.place ≢ note.place = λ e. apart (one_index (λ (n : Note). n.place) d.notes out.places j out.index other note there out.there e) in grind (arith, nat_tests, differs))

  -- what is owed to another place, or by another outcome, stays owed
  still_owed : (place : ℕ) → (note.target == place && is_ok note.outcome) ≡ false → is_owed new place ≡ is_owed d place
  still_owed place other =
      ap (list_any (λ n. n.target == place && is_ok n.outcome)) notes_are
      ∙ any_remove (λ (n : Note). n.target == place && is_ok n.outcome) d.notes out.index note out.there other

  module _ (home : is_ok note.outcome ≡ true → IsHome core d note.target) (after : Core)
      (objects : after.objects ≡ core.objects) (queues : after.queues ≡ core.queues) (jobs : after.jobs.items ≡ remove core.jobs.items out.index) where
    content_then : (i : ℕ) (o : Object) (one : model.Object) → slice_get (kept_of core.objects) i ≡ Some o → slice_get d.objects o.place ≡ Some one
        → IsContent core.queues (is_owed d o.place) one.content o.content → IsContent core.queues (is_owed new o.place) one.content o.content
    content_then i o one at there is = by_test (note.target == o.place && is_ok note.outcome) refl where
      by_test : (b : Bool) → (note.target == o.place && is_ok note.outcome) ≡ b → IsContent core.queues (is_owed new o.place) one.content o.content
      by_test false other = subst (λ b. IsContent core.queues b one.content o.content) (sym (still_owed o.place other)) is
      by_test true its =
          let here : o.place ≡ note.target = grind (arith, nat_tests, its) in
          let ok : is_ok note.outcome ≡ true = grind (arith, nat_tests, its) in
          content_owed core.queues false (is_owed new o.place) (λ x. refl) one.content o.content (home ok i o one at here (subst (λ p. slice_get d.objects p ≡ Some one) here there))

    told : map told_by after.jobs.items ≡ map told_of new.notes
    told =
        ap (map told_by) jobs ∙ (map_remove told_by core.jobs.items out.index ∙ (ap (λ ts. remove ts out.index) stands.jobs
        ∙ (sym (map_remove told_of d.notes out.index) ∙ ap (map told_of) (sym notes_are))))

    pub forgotten_stands : Stands after new
    forgotten_stands = record {
      kept = λ i o at.
          let there = subst (λ x. slice_get (kept_of x) i ≡ Some o) objects at in
          let k = stands.kept i o there in
          let content = content_then i o k.0 there k.1 k.3.content in
          (k.0, k.1, k.2, record { name = k.3.name; device = k.3.device; live = k.3.live; content = subst (λ q. IsContent q (is_owed new o.place) k.0.content o.content) (sym queues) content });
      needed = λ place one at needed.
          let n = stands.needed place one at needed in
          (n.0, n.1, subst (λ x. slice_get (kept_of x) n.0 ≡ Some n.1) (sym objects) n.2, n.3);
      made = ap made_of objects ∙ stands.made;
      given = subst (λ x. IsGiven x (map (λ (one : model.Object). one.name) d.objects)) (sym objects) stands.given;
      jobs = told;
      idle_queues = stands.idle_queues;
    }

-- what is found at the place that a job writes is its target, if anything is
pub target_found : (core : Core) (d : State) (stands : Stands core d) (number : ℕ) (note : Note) (out : IsOut d number note) (at : ℕ) (has : HasJob core.jobs.items number at)
    (result : Option ℕ) → IsOnly (is_at has.job.target) (kept_of core.objects) result → IsTarget core note result
target_found core d stands number note out at has None only = λ i object there its. only i (record { object = object; stands = there; passes = let same = target_is core d stands number note out at has in grind (arith, nat_tests, its, same) })
target_found core d stands number note out at has (Some index) only =
    let same = target_is core d stands number note out at has in
    let passes = only.0.passes in
    (only.0.object, only.0.stands, grind (arith, nat_tests, passes, same))

pub ok_is : (comes_to : Outcome) → is_ok comes_to ≡ true → comes_to ≡ outcome.Ok
ok_is outcome.Ok ok = refl
ok_is (outcome.Bitstream slice) ok = absurd (grind (arith, ok))
ok_is (outcome.Incomplete macroblocks) ok = absurd (grind (arith, ok))

-- the target that was found by the job's number
pub target_there : (core : Core) (d : State) (note : Note) (index number found_by : ℕ) → found_by ≡ number → Stands core d → IsOut d number note
    → Targets core found_by (Some index) → (object : Object) × (slice_get (kept_of core.objects) index ≡ Some object) × (object.place ≡ note.target)
target_there core d note index number found_by same stands out targets = targets d note stands (subst (λ n. IsOut d n note) (sym same) out)

-- where none is kept, nothing is to be given
pub none_home : (core : Core) (d : State) (note : Note) (number found_by : ℕ) → found_by ≡ number → Stands core d → IsOut d number note
    → Targets core found_by None → IsHome core d note.target
none_home core d note number found_by same stands out targets = λ i object one at its there. absurd (targets d note stands (subst (λ n. IsOut d n note) (sym same) out) i object at its)
