-- An object is added, in what is kept and in the state.
use Rattle.std.proofs.Common.{◌≡◌, inl, inr, ℕ, zero, suc, ◌+◌, ◌<◌, ◌==◌, ◌&&◌, ◌||◌, Bool, true, false, List, [], ◌∷◌, ◌++◌, length, map, slice_get, Option, Some, None, option_map, true≢false, unwrap_or, refl, sym, ap, ◌∙◌, subst, arith}
use Rattle.std.specs.List.{list_any}
use Rattle.std.proofs.lemmas.Bool.Decides.{nat_tests}
use Rattle.std.proofs.lemmas.List.{length-append}
use Rattle.std.proofs.lemmas.Option.{none-some, slice_get-map}
use Rattle.driver_model.specs.Kept.{is_in_queue}
use Rattle.driver_model.specs.Objects as model
use Rattle.driver_model.specs.States.{Note, State, with_object}
use Rattle.driver_model.proofs.Changes.{names-append}
use Rattle.driver_objects.specs.Kept.{IsGiven, kept_of, made_of}
use Rattle.driver_objects.specs.Listed.{made_object}
use Rattle.driver_objects.specs.declared.content.Content.{Content}
use Rattle.driver_objects.specs.declared.object.Object.{Object}
use Rattle.driver_objects.specs.declared.jobs.OutJob.{OutJob}
use Rattle.driver_objects.proofs.Lists.{at_append}
use Rattle.driver_core.specs.Stands.{IsContent, IsNeeded, IsObject, Stands, is_ok, is_owed, told_by, told_of}
use Rattle.driver_core.specs.declared.driver.Core.{Core}

module _ {X : Type 0} where
  pub get_before : (xs : List X) (y x : X) (i : ℕ) → slice_get xs i ≡ Some x → slice_get (xs ++ y ∷ []) i ≡ Some x
  get_before [] y x i at = absurd (none-some x at)
  get_before (z ∷ xs) y x zero at = at
  get_before (z ∷ xs) y x (suc i) at = get_before xs y x i at

  pub get_last : (xs : List X) (y : X) → slice_get (xs ++ y ∷ []) (length xs) ≡ Some y
  get_last [] y = refl
  get_last (z ∷ xs) y = get_last xs y

  -- nothing passes a test that each element fails
  none_passes : (test : X → Bool) (xs : List X) → ((i : ℕ) (x : X) → slice_get xs i ≡ Some x → test x ≡ false) → list_any test xs ≡ false
  none_passes test [] fails = refl
  none_passes test (z ∷ xs) fails = ap (λ b. b || list_any test xs) (fails 0 z refl) ∙ none_passes test xs (λ i. fails (suc i))

-- no job that is out writes an object that wasn't made yet
pub not_owed : (core : Core) (d : State) → Stands core d → is_owed d (made_of core.objects) ≡ false
not_owed core d stands = none_passes (λ note. note.target == made_of core.objects && is_ok note.outcome) d.notes (λ i note at. fails i note at (job_at i note at))
  where
    job_at : (i : ℕ) (note : Note) → slice_get d.notes i ≡ Some note → (job : OutJob) × (slice_get core.jobs.items i ≡ Some job) × (job.target ≡ note.target)
    job_at i note at =
        let told : slice_get (map told_by core.jobs.items) i ≡ Some (told_of note) = ap (λ l. slice_get l i) stands.jobs ∙ (slice_get-map told_of d.notes i ∙ ap (option_map told_of) at) in
        job_of (slice_get core.jobs.items i) refl (sym (slice_get-map told_by core.jobs.items i) ∙ told)
      where
        job_of : (o : Option OutJob) → slice_get core.jobs.items i ≡ o → option_map told_by o ≡ Some (told_of note) → (job : OutJob) × (slice_get core.jobs.items i ≡ Some job) × (job.target ≡ note.target)
        job_of None is told = absurd (none-some (told_of note) told)
        job_of (Some job) is told = (job, is, ap (λ (o : Option (ℕ × ℕ)). (unwrap_or o (told_by job)).1) told)

    fails : (i : ℕ) (note : Note) → slice_get d.notes i ≡ Some note → ((job : OutJob) × (slice_get core.jobs.items i ≡ Some job) × (job.target ≡ note.target)) → (note.target == made_of core.objects && is_ok note.outcome) ≡ false
    fails i note at job = let below = core.sound.targets i job.0 job.1 in let other : note.target < made_of core.objects = omega (arith, below, job.2) in grind (arith, nat_tests, other)

module _ (core : Core) (d : State) (stands : Stands core d) (name : ℕ) (device : Option ℕ) (what : Content) (content : model.Content) where
  abbrev pub one_added : model.Object
  one_added = record { name = name; device = unwrap_or device (length d.objects); is_live = true; content = content }

  abbrev new : State
  new = with_object d one_added

  abbrev pub kept_added : Object
  kept_added = made_object (made_of core.objects) name device what

  pub added_stands : (after : Core) → kept_of after.objects ≡ kept_of core.objects ++ kept_added ∷ [] → made_of after.objects ≡ made_of core.objects + 1
      → ((names : List ℕ) → IsGiven core.objects names → IsGiven after.objects (names ++ name ∷ [])) → after.queues ≡ core.queues → after.jobs ≡ core.jobs
      → ((place : ℕ) → is_in_queue new place ≡ is_in_queue d place)
      → IsContent core.queues false content what
      → Stands after new
  added_stands after kept made given queues jobs queued_same is = record {
    kept = λ i o at. elim (at_append (kept_of core.objects) kept_added o i (sym (ap (λ k. slice_get k i) kept) ∙ at)) [
      | inl was ↦
          let k = stands.kept i o was.1 in (
            k.0,
            get_before d.objects one_added k.0 o.place k.1,
            ap (λ q. k.0.is_live || q) (queued_same o.place) ∙ k.2,
            record { name = k.3.name; device = k.3.device; live = k.3.live; content = subst (λ q. IsContent q (is_owed d o.place) k.0.content o.content) (sym queues) k.3.content },
          )
      | inr last ↦ subst FromState last.1 added
    ];
    needed = λ place o at needed. elim (at_append d.objects one_added o place at) [
      | inl was ↦
          let n = stands.needed place o was.1 (ap (λ q. o.is_live || q) (sym (queued_same place)) ∙ needed) in
          (n.0, n.1, ap (λ k. slice_get k n.0) kept ∙ get_before (kept_of core.objects) kept_added n.1 n.0 n.2, n.3)
      | inr last ↦ (length (kept_of core.objects), kept_added, ap (λ k. slice_get k (length (kept_of core.objects))) kept ∙ get_last (kept_of core.objects) kept_added, stands.made ∙ sym last.0)
    ];
    made = let longer = length-append d.objects (one_added ∷ []) in omega (arith, made, stands.made, longer);
    given = subst (IsGiven after.objects) (sym (names-append d.objects one_added)) (given (map (λ (x : model.Object). x.name) d.objects) stands.given);
    jobs = ap (λ j. map told_by j.items) jobs ∙ stands.jobs;
    idle_queues = λ place o queue surface at gone is_queue names. elim (at_append d.objects one_added o place at) [
      | inl was ↦ stands.idle_queues place o queue surface was.1 gone is_queue names
      | inr last ↦ true≢false (ap (λ (x : model.Object). x.is_live) last.1 ∙ gone)
    ];
  }
    where
      FromState : Object → Type 0
      FromState o = (x : model.Object) × (slice_get new.objects o.place ≡ Some x) × IsNeeded new o.place x × IsObject after new x o

      added : FromState kept_added
      added = (
        one_added,
        ap (slice_get new.objects) stands.made ∙ get_last d.objects one_added,
        refl,
        record {
          name = refl;
          device = ap (unwrap_or device) stands.made;
          live = refl;
          content = subst (λ q. IsContent q (is_owed d (made_of core.objects)) content what) (sym queues) (subst (λ b. IsContent core.queues b content what) (sym (not_owed core d stands)) is);
        },
      )
