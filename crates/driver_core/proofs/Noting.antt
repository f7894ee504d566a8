-- A further job is out, and has written its surface in the state.
use Rattle.std.proofs.Common.{◌≡◌, ℕ, zero, suc, true, List, [], ◌∷◌, ◌++◌, map, set, slice_get, Some, None, refl, sym, ap, subst, arith}
use Rattle.std.proofs.lemmas.Option.{none-some}
use mathlib.Core.Bool.{false≢true}
use Rattle.decoder_render.specs.declared.outcome.Outcome.TheVariants as outcome
use Rattle.driver_model.specs.Objects as model
use Rattle.driver_model.specs.States.{State, free_number, with_content as with_model_content, with_note}
use Rattle.driver_objects.specs.Kept.{kept_of}
use Rattle.driver_objects.specs.Kinds.{kind_number}
use Rattle.driver_objects.specs.declared.content.Content.TheVariants as content
use Rattle.driver_objects.specs.declared.object.Object.{Object}
use Rattle.driver_objects.specs.declared.jobs.OutJob.{OutJob}
use Rattle.driver_objects.proofs.Lists.{element_is}
use Rattle.driver_core.specs.Jobs.{HasBytesThere, HasPictureThere}
use Rattle.driver_core.specs.Stands.{IsContent, Stands, is_owed}
use Rattle.driver_core.specs.declared.driver.Core.{Core}
use Rattle.driver_core.proofs.ContentStands.{content_stands}
use Rattle.driver_core.proofs.NotedStands.{noted_stands, now_owed}
use Rattle.driver_core.proofs.Steps.{same_queues}
use Rattle.driver_core.proofs.Targets.{has_output, has_video, kept_output, kept_video}

set_same : {X : Type 0} (xs : List X) (i : ℕ) (x : X) → slice_get xs i ≡ Some x → set xs i x ≡ xs
set_same [] i x at = absurd (none-some x at)
set_same (y ∷ xs) zero x at = ap (λ z. z ∷ xs) (sym (element_is y x at))
set_same (y ∷ xs) (suc i) x at = ap (λ rest. y ∷ rest) (set_same xs i x at)

module _ (core : Core) (d : State) (stands : Stands core d) (caller : List ℕ) (index : ℕ) (object : Object) (there : slice_get (kept_of core.objects) index ≡ Some object)
    (after : Core) (job : OutJob) (objects : after.objects ≡ core.objects) (queues : after.queues ≡ core.queues) (jobs : after.jobs.items ≡ core.jobs.items ++ job ∷ [])
    (number : job.number ≡ free_number (map (λ (job : OutJob). job.number) core.jobs.items)) (of_target : job.target ≡ object.place) where
  abbrev noted : State
  noted = with_note d caller object.place outcome.Ok

  noted_so : Stands after noted
  noted_so = noted_stands core d stands caller object.place outcome.Ok after job objects queues jobs number of_target

  owed : is_owed noted object.place ≡ true
  owed = now_owed core d stands caller object.place outcome.Ok after job objects queues jobs number of_target refl

  there_after : slice_get (kept_of after.objects) index ≡ Some object
  there_after = subst (λ x. slice_get (kept_of x) index ≡ Some object) (sym objects) there

  -- content that is kept as it was, where what it lacks is owed
  written : (content : model.Content) → (kind_number object.content ≡ 5 → ⊥) → model.as_queue content ≡ None
      → IsContent core.queues true content object.content
      → Stands after (with_model_content noted object.place content)
  written content not_queue no_queue is =
      content_stands after noted noted_so index object there_after object.content content (λ dead. no_queue)
      (same_queues after noted noted_so index object content there_after not_queue no_queue)
      after (sym (set_same (kept_of after.objects) index object there_after)) refl (λ names is. is) refl refl
      (subst (λ b. IsContent after.queues b content object.content) (sym owed) (subst (λ q. IsContent q true content object.content) (sym queues) is))

  pub picture_stands : (content : model.Content) → HasPictureThere d object.place content → Stands after (with_note (with_model_content d object.place content) caller object.place outcome.Ok)
  picture_stands what (surface, picture, at, is) =
      let k = stands.kept index object there in
      let one = has_video d object.place k.0 k.1 surface at in
      let kept = kept_video core.queues (is_owed d object.place) surface object.content (subst (λ c. IsContent core.queues (is_owed d object.place) c object.content) one k.3.content) in
      let not_queue : kind_number object.content ≡ 5 → ⊥ = λ e. let n : kind_number object.content ≡ 1 = ap kind_number kept.1 in absurd (omega (arith, e, n)) in
      let has : IsContent core.queues true (model.VideoObject (record surface { picture = picture })) (content.Video kept.0) = (kept.2, λ home. absurd (false≢true (sym home))) in
      written what not_queue (ap model.as_queue is) (subst (λ c. IsContent core.queues true c object.content) (sym is) (subst (λ c. IsContent core.queues true (model.VideoObject (record surface { picture = picture })) c) (sym kept.1) has))

  pub bytes_stand : (content : model.Content) → HasBytesThere d object.place content → Stands after (with_note (with_model_content d object.place content) caller object.place outcome.Ok)
  bytes_stand what (surface, bytes, at, is) =
      let k = stands.kept index object there in
      let one = has_output d object.place k.0 k.1 surface at in
      let kept = kept_output core.queues (is_owed d object.place) surface object.content (subst (λ c. IsContent core.queues (is_owed d object.place) c object.content) one k.3.content) in
      let not_queue : kind_number object.content ≡ 5 → ⊥ = λ e. let n : kind_number object.content ≡ 2 = ap kind_number kept.1 in absurd (omega (arith, e, n)) in
      let has : IsContent core.queues true (model.OutputObject (record surface { bytes = bytes })) (content.Output kept.0) = (kept.2.0, kept.2.1, kept.2.2, λ home. absurd (false≢true (sym home))) in
      written what not_queue (ap model.as_queue is) (subst (λ c. IsContent core.queues true c object.content) (sym is) (subst (λ c. IsContent core.queues true (model.OutputObject (record surface { bytes = bytes })) c) (sym kept.1) has))
