-- What the looks at a queue and at an output surface come to.
use Rattle.std.proofs.Common.{◌≡◌, ℕ, ◌<◌, Bool, true, false, if◌then◌else◌, List, get_or, slice_get, Some, Ok, Err, refl, sym, ap, ◌∙◌, subst, arith}
use Rattle.std.proofs.lemmas.Option.{get_or_from_slice_get}
use Rattle.vd_status.specs.declared.refusal.Refusal.{Refusal}
use Rattle.present_queue.specs.Queues.{IsHolderOf, is_object}
use Rattle.present_queue.specs.Queue.{is_queued, is_shown}
use Rattle.driver_model.specs.Objects as model
use Rattle.driver_model.specs.Presented.{is_queued_at, is_visible_at, status_at}
use Rattle.driver_model.specs.Queues.{QueueAndSurface, presented}
use Rattle.driver_model.specs.Refusals.{Looked, ◌>>=◌, further_handle}
use Rattle.driver_model.specs.States.{Found, State, named}
use Rattle.driver_model.specs.declared.numbers.TheConstants as number
use Rattle.driver_model.specs.declared.replies.PresentStatus.{PresentStatus}
use Rattle.driver_model.specs.declared.replies.PresentStatus.TheVariants.{Idle, Queued, Visible}
use Rattle.driver_objects.specs.Contents.{HasContent, HasOutput}
use Rattle.driver_objects.specs.Kept.{kept_of}
use Rattle.driver_objects.specs.Kinds.{holder_of, kind_number}
use Rattle.driver_objects.specs.Listed.{IsOnly, called}
use Rattle.driver_objects.specs.declared.content.Content.{Content}
use Rattle.driver_objects.specs.declared.content.Content.TheVariants as content
use Rattle.driver_objects.specs.declared.content.OutputSurface.{OutputSurface}
use Rattle.driver_objects.specs.declared.object.Object.{Object}
use Rattle.driver_objects.proofs.Lists.{one_kept}
use Rattle.driver_core.specs.Found.{Finds}
use Rattle.driver_core.specs.Looked.{IsFurther}
use Rattle.driver_core.specs.Standing.{OfPlace, Presents, RefusesBoth}
use Rattle.driver_core.specs.Stands.{Stands}
use Rattle.driver_core.specs.declared.driver.Core.{Core}
use Rattle.driver_core.proofs.Handles.{called_kind, further_err, further_ok}
use Rattle.driver_core.proofs.ModelKinds.{output_is, output_kind, output_other}
use Rattle.driver_core.proofs.Presenting.{is_holder, queued_there, shown_there}

output_by_kind : (what : Content) → kind_number what ≡ number.OUTPUT_SURFACE → (surface : OutputSurface) × (what ≡ content.Output surface)
output_by_kind (content.Device of) is = absurd (omega (arith, is))
output_by_kind (content.Video of) is = absurd (omega (arith, is))
output_by_kind (content.Output of) is = (of, refl)
output_by_kind (content.Decoder of) is = absurd (omega (arith, is))
output_by_kind (content.Mixer of) is = absurd (omega (arith, is))
output_by_kind (content.Queue of) is = absurd (omega (arith, is))

-- what is found under the kind of output surfaces is one
pub output_called : (core : Core) (name index : ℕ) → IsOnly (called number.OUTPUT_SURFACE name) (kept_of core.objects) (Some index) → HasOutput (kept_of core.objects) index
output_called core name index only =
    let object = only.0.object in
    let is = output_by_kind object.content (called_kind core number.OUTPUT_SURFACE name index only object.content (record { object = object; there = only.0.stands; has = refl })) in
    (is.0, record { object = object; there = only.0.stands; has = is.1 })

module _ (core : Core) (handle surface queue : ℕ) (what : Content) (finds : Finds model.as_queue (λ of. model.QueueObject of) core 0 handle queue what) (on : Object)
    (there : slice_get (kept_of core.objects) queue ≡ Some on) where
  looked : (d : State) (stands : Stands core d) → (found : Found model.PresentationQueue) × (found.place ≡ on.place) × (presented d handle surface ≡ (further_handle 1 on.device (named d model.as_output surface) >>= (λ of. Ok (record { queue = found; surface = of }))))
  looked d stands =
      let f = finds d stands in
      let same : f.object ≡ on = one_kept (kept_of core.objects) queue f.object on f.there there in
      let found : Found model.PresentationQueue = record { place = f.object.place; device = f.object.device; value = f.value } in
      let next : Found model.PresentationQueue → Looked QueueAndSurface = λ q. further_handle 1 q.device (named d model.as_output surface) >>= (λ of. Ok (record { queue = q; surface = of })) in (
        found,
        ap (λ (o : Object). o.place) same,
        ap (λ l. l >>= next) f.looks ∙ ap (λ (o : Object). further_handle 1 o.device (named d model.as_output surface) >>= (λ of. Ok (record { queue = found; surface = of }))) same,
      )

  pub presented_ok : (index : ℕ) → IsFurther (kept_of core.objects) 1 number.OUTPUT_SURFACE surface on.device (Ok index) → Presents core handle surface on.place index
  presented_ok index is d stands =
      let l = looked d stands in
      let o = output_called core surface index is.0 in
      let f = further_ok model.as_output (λ of. model.OutputObject of) number.OUTPUT_SURFACE output_kind output_other output_is core 1 surface on.device index (content.Output o.0) is o.1 d stands in
      record {
        object = f.object;
        there = f.there;
        found = record { queue = l.0; surface = record { place = f.object.place; device = f.object.device; value = f.value } };
        looks = l.2 ∙ ap (λ r. r >>= (λ of. Ok (record { queue = l.0; surface = of }))) f.looks;
        queue = l.1;
        output = refl;
      }

  pub presented_refused : (refusal : Refusal) → IsFurther (kept_of core.objects) 1 number.OUTPUT_SURFACE surface on.device (Err refusal) → RefusesBoth core handle surface refusal
  presented_refused refusal is d stands =
      let l = looked d stands in
      l.2 ∙ ap (λ r. r >>= (λ of. Ok (record { queue = l.0; surface = of }))) (further_err model.as_output (λ of. model.OutputObject of) number.OUTPUT_SURFACE output_kind output_other output_is core 1 surface on.device refusal is d stands)

-- the object that is read where there is one
pub read_there : (kept : List Object) (index : ℕ) (what : Content) (object : Object) → HasContent kept index what → object ≡ get_or kept index object → slice_get kept index ≡ Some object
read_there kept index what object has read = subst (λ o. slice_get kept index ≡ Some o) (sym (read ∙ get_or_from_slice_get kept index has.object object has.there)) has.there

-- ---- one output surface

abbrev status_of : Bool → Bool → PresentStatus
status_of visible queued = if visible then Visible else if queued then Queued else Idle

module _ (core : Core) (index : ℕ) (what : Content) (surface : OutputSurface) (has : HasContent (kept_of core.objects) index what) (is : what ≡ content.Output surface) where
  holder_at : (object : Object) → slice_get (kept_of core.objects) index ≡ Some object → holder_of object.content ≡ Some surface.holder
  holder_at object there = ap holder_of (ap (λ (o : Object). o.content) (one_kept (kept_of core.objects) index object has.object there has.there) ∙ (has.has ∙ is))

  pub holder_below : surface.holder < 5184
  holder_below = core.sound.holders index has.object surface.holder has.there (holder_at has.object has.there)

  module _ (d : State) (object : Object) (stands : Stands core d) (there : slice_get (kept_of core.objects) index ≡ Some object) where
    pub visible_at : (shown : Bool) → ((place : ℕ) → IsHolderOf core.queues surface.holder place → shown ≡ is_shown (is_object place) core.queues) → is_visible_at d object.place ≡ shown
    visible_at shown by_object = sym (by_object object.place (is_holder core index object surface.holder there (holder_at object there)) ∙ shown_there core d stands object.place)

    pub queued_at : (queued : Bool) → ((place : ℕ) → IsHolderOf core.queues surface.holder place → queued ≡ is_queued (is_object place) core.queues) → is_queued_at d object.place ≡ queued
    queued_at queued by_object = sym (by_object object.place (is_holder core index object surface.holder there (holder_at object there)) ∙ queued_there core d stands object.place)

  pub status_visible : (shown : Bool) → ((place : ℕ) → IsHolderOf core.queues surface.holder place → shown ≡ is_shown (is_object place) core.queues) → shown ≡ true → OfPlace core index (λ d place. Visible ≡ status_at d place)
  status_visible shown by_object is_so d object stands there = sym (ap (λ v. status_of v (is_queued_at d object.place)) (visible_at d object stands there shown by_object ∙ is_so))

  pub status_else : (shown queued : Bool) → ((place : ℕ) → IsHolderOf core.queues surface.holder place → shown ≡ is_shown (is_object place) core.queues)
      → ((place : ℕ) → IsHolderOf core.queues surface.holder place → queued ≡ is_queued (is_object place) core.queues)
      → shown ≡ false → OfPlace core index (λ d place. (if queued then Queued else Idle) ≡ status_at d place)
  status_else shown queued shown_by queued_by not_shown d object stands there =
      sym (ap (λ v. status_of v (is_queued_at d object.place)) (visible_at d object stands there shown shown_by ∙ not_shown) ∙ ap (λ q. status_of false q) (queued_at d object stands there queued queued_by))
