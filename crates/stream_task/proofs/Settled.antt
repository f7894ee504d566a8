-- A picture that was rendered is settled.
use Rattle.std.proofs.Common.{◌≡◌, ℕ, Bool, true, false, length, set, Some, refl, sym, subst}
use Rattle.accepted_pictures.specs.Files.{Decoded}
use Rattle.stream_calls.specs.StreamCalls.{Stream}
use Rattle.stream_course.specs.Standing as course
use Rattle.stream_course.specs.Way.{Way, with_decoded, with_failure}
use Rattle.stream_course.specs.declared.course.Course.{Course}
use Rattle.stream_task.specs.Leaving.{IsRendered}
use Rattle.stream_task.specs.declared.slots.Slots.{Slots}
use Rattle.stream_task.specs.declared.task.StreamTask.{StreamTask}

module _ (old mid : StreamTask) (slots : Slots) (new : Course) (of : Stream) (way : Way) (one : Decoded) (frame surface : ℕ) (whole : Bool)
    (stands : course.StandsFor old.course of way) (is : mid ≡ record old { slots = slots }) where
  stands_still : course.StandsFor mid.course of way
  stands_still = subst (λ (t : StreamTask). course.StandsFor t.course of way) (sym is) stands

  pub whole_one : whole ≡ true
      → slots.of_number ≡ set old.slots.of_number frame surface
      → slots.waits ≡ set old.slots.waits surface (Some (length way.fed.decoded))
      → (course.StandsFor mid.course of way → course.StandsFor new of (with_decoded way one))
      → IsRendered old (record mid { course = new }) of way one (record { frame = frame; surface = surface; whole = whole })
  whole_one true_is numbers waits settled =
      subst (λ (b : Bool). IsRendered old (record mid { course = new }) of way one (record { frame = frame; surface = surface; whole = b })) (sym true_is)
      (subst (λ (t : StreamTask). IsRendered old (record t { course = new }) of way one (record { frame = frame; surface = surface; whole = true })) (sym is)
      (record { course_stands = settled stands_still; slots = (numbers, waits); rest = refl }))

  pub none_whole : whole ≡ false
      → slots ≡ old.slots
      → (course.StandsFor mid.course of way → course.StandsFor new of (with_failure way one.picture))
      → IsRendered old (record mid { course = new }) of way one (record { frame = frame; surface = surface; whole = whole })
  none_whole false_is same settled =
      subst (λ (b : Bool). IsRendered old (record mid { course = new }) of way one (record { frame = frame; surface = surface; whole = b })) (sym false_is)
      (subst (λ (t : StreamTask). IsRendered old (record t { course = new }) of way one (record { frame = frame; surface = surface; whole = false })) (sym is)
      (record { course_stands = settled stands_still; slots = same; rest = refl }))
