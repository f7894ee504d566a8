-- A live queue of a core is given other content.
use Rattle.std.proofs.Common.{◌≡◌, ◌⊎◌, ℕ, true, true≢false, List, map, set, slice_get, Some, refl, sym, ap, ◌∙◌, subst}
use Rattle.present_queue.specs.Queue.{Names, Queue}
use Rattle.present_queue.specs.Queues.{Surface, queue_at}
use Rattle.driver_model.specs.Objects as model
use Rattle.driver_model.specs.States.{State, with_content}
use Rattle.driver_model.proofs.Changes.{names-changed}
use Rattle.driver_objects.specs.Kept.{IsGiven, kept_of, made_of}
use Rattle.driver_objects.specs.declared.content.Content.TheVariants as content
use Rattle.driver_objects.specs.declared.content.PresentationQueue.{PresentationQueue}
use Rattle.driver_objects.specs.declared.object.Object.{Object}
use Rattle.driver_objects.proofs.Searched.{place_is_one}
use Rattle.driver_core.specs.Stands.{IsContent, Stands, by_place, is_owed, told_by}
use Rattle.driver_core.specs.declared.driver.Core.{Core}
use Rattle.driver_core.proofs.ContentStands.{length_changed}
use Rattle.driver_core.proofs.Covering.{all_needed, covers_of, idle_changed, stands_from}
use Rattle.driver_core.proofs.QueueStands.{IsLiveSurface, queue_all_needed, queue_covers}

module _ (core : Core) (d : State) (stands : Stands core d) (index : ℕ) (object : Object) (of_kept : PresentationQueue)
    (there : slice_get (kept_of core.objects) index ≡ Some object) (has : object.content ≡ content.Queue of_kept) (live : object.is_live ≡ true)
    (value : model.PresentationQueue) (is : IsContent core.queues (is_owed d object.place) (model.QueueObject value) (content.Queue of_kept)) where
  -- It names what it named before, and beside that live surfaces alone.
  pub queue_written : (after : Core) (queue : Queue Surface) (now : Queue ℕ) → kept_of after.objects ≡ kept_of core.objects → made_of after.objects ≡ made_of core.objects
      → ((names : List ℕ) → IsGiven core.objects names → IsGiven after.objects names) → after.queues ≡ set core.queues of_kept.number queue → after.jobs ≡ core.jobs
      → ((surface : Surface) → Names (queue_at core.queues of_kept.number) surface → Names queue surface)
      → ((surface : Surface) → Names queue surface → Names (queue_at core.queues of_kept.number) surface ⊎ IsLiveSurface (kept_of core.objects) surface)
      → now ≡ by_place queue
      → Stands after (with_content d object.place (model.QueueObject (record value { queue = now })))
  queue_written after queue now kept made given queues jobs stays more is_now =
      let kept_before = kept_of core.objects in
      let one_place = place_is_one core.objects.names kept_before (made_of core.objects) core.objects.sound in
      let covers = queue_covers kept_before (made_of core.objects) core.queues core.jobs.items core.sound index object of_kept there has d (covers_of core d stands) one_place live queue value.window is.0 now is_now more in
      let needed = queue_all_needed kept_before (made_of core.objects) core.queues core.jobs.items core.sound index object of_kept there has d (covers_of core d stands) one_place live queue value.window is.0 now is_now (all_needed core d stands) stays in
      let new : State = with_content d object.place (model.QueueObject (record value { queue = now })) in
      let change : model.Object → model.Object = λ one. record one { content = model.QueueObject (record value { queue = now }) } in
      stands_from after new
      (rw (kept, queues) covers)
      (rw kept needed)
      (made ∙ (stands.made ∙ sym (length_changed change object.place d.objects)))
      (subst (IsGiven after.objects) (sym (names-changed change (λ one. refl) object.place d.objects)) (given (map (λ (one : model.Object). one.name) d.objects) stands.given))
      (ap (λ j. map told_by j.items) jobs ∙ stands.jobs)
      (let k = stands.kept index object there in idle_changed d.objects object.place change k.0 k.1 stands.idle_queues (λ q surface dead is_queue names. true≢false (sym (sym k.3.live ∙ live) ∙ dead)))
