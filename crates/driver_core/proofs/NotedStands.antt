-- A further job is out.
use Rattle.std.proofs.Common.{◌≡◌, ℕ, ◌==◌, ◌&&◌, Bool, true, false, List, [], ◌∷◌, ◌++◌, map, slice_get, Some, refl, sym, ap, ◌∙◌, subst, arith}
use Rattle.std.specs.List.{list_any}
use Rattle.std.proofs.lemmas.Bool.Decides.{nat_tests}
use Rattle.std.proofs.lemmas.List.{map-append}
use Rattle.std.proofs.lemmas.List.Folds.{list_any-append}
use Rattle.decoder_render.specs.declared.outcome.Outcome.{Outcome}
use Rattle.driver_model.specs.Objects as model
use Rattle.driver_model.specs.States.{Note, State, free_number, with_note}
use Rattle.driver_objects.specs.Kept.{IsGiven, kept_of, made_of}
use Rattle.driver_objects.specs.declared.jobs.OutJob.{OutJob}
use Rattle.driver_core.specs.Stands.{IsContent, Stands, is_ok, is_owed, told_by, told_of}
use Rattle.driver_core.specs.declared.driver.Core.{Core}
use Rattle.driver_core.proofs.OwedContent.{content_owed}

map_map : {X Y Z : Type 0} (f : Y → Z) (g : X → Y) (xs : List X) → map f (map g xs) ≡ map (λ x. f (g x)) xs
map_map f g [] = refl
map_map f g (x ∷ xs) = ap (λ ys. f (g x) ∷ ys) (map_map f g xs)

-- what no element of the longer list passes, none of its front does
any_front : {X : Type 0} (test : X → Bool) (xs ys : List X) → list_any test (xs ++ ys) ≡ false → list_any test xs ≡ false
any_front test xs ys none = let both = sym (list_any-append test xs ys) ∙ none in grind (arith, both)

any_last : {X : Type 0} (test : X → Bool) (xs : List X) (x : X) → test x ≡ true → list_any test (xs ++ x ∷ []) ≡ true
any_last test xs x is = list_any-append test xs (x ∷ []) ∙ grind (arith, is)

-- the jobs' numbers are those of the notes
pub numbers_same : (core : Core) (d : State) → Stands core d → map (λ (job : OutJob). job.number) core.jobs.items ≡ map (λ (note : Note). note.number) d.notes
numbers_same core d stands =
    sym (map_map (λ (told : ℕ × ℕ). told.0) told_by core.jobs.items) ∙ (ap (map (λ (told : ℕ × ℕ). told.0)) stands.jobs ∙ map_map (λ (told : ℕ × ℕ). told.0) told_of d.notes)

module _ (core : Core) (d : State) (stands : Stands core d) (caller : List ℕ) (target : ℕ) (comes_to : Outcome)
    (after : Core) (job : OutJob) (objects : after.objects ≡ core.objects) (queues : after.queues ≡ core.queues) (jobs : after.jobs.items ≡ core.jobs.items ++ job ∷ [])
    (number : job.number ≡ free_number (map (λ (job : OutJob). job.number) core.jobs.items)) (of_target : job.target ≡ target) where
  abbrev new : State
  new = with_note d caller target comes_to

  -- what was owed is owed still
  more_owed : (place : ℕ) → is_owed new place ≡ false → is_owed d place ≡ false
  more_owed place none = any_front (λ (note : Note). note.target == place && is_ok note.outcome) d.notes _ none

  told : map told_by after.jobs.items ≡ map told_of new.notes
  told =
      ap (map told_by) jobs ∙ (map-append told_by core.jobs.items (job ∷ []) ∙ ((λ i. stands.jobs i ++ (number i, of_target i) ∷ [])
      ∙ (ap (λ (numbers : List ℕ). map told_of d.notes ++ (free_number numbers, target) ∷ []) (numbers_same core d stands) ∙ sym (map-append told_of d.notes _))))

  pub noted_stands : Stands after new
  noted_stands = record {
    kept = λ i o at.
        let k = stands.kept i o (subst (λ x. slice_get (kept_of x) i ≡ Some o) objects at) in
        let content = content_owed core.queues (is_owed d o.place) (is_owed new o.place) (more_owed o.place) k.0.content o.content k.3.content in
        (k.0, k.1, k.2, record { name = k.3.name; device = k.3.device; live = k.3.live; content = subst (λ q. IsContent q (is_owed new o.place) k.0.content o.content) (sym queues) content });
    needed = λ place one at needed.
        let n = stands.needed place one at needed in
        (n.0, n.1, subst (λ x. slice_get (kept_of x) n.0 ≡ Some n.1) (sym objects) n.2, n.3);
    made = ap made_of objects ∙ stands.made;
    given = subst (λ x. IsGiven x (map (λ (one : model.Object). one.name) d.objects)) (sym objects) stands.given;
    jobs = told;
    idle_queues = stands.idle_queues;
  }

  -- its target is owed, where the outcome is Ok
  pub now_owed : is_ok comes_to ≡ true → is_owed new target ≡ true
  now_owed ok = any_last (λ (note : Note). note.target == target && is_ok note.outcome) d.notes _ (grind (arith, nat_tests, ok))
