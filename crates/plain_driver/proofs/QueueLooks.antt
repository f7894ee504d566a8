-- What the looks of calls on presentation queues find.
use Rattle.std.proofs.Common.{◌≡◌, ◌≢◌, ℕ, ◌<◌, ◌==◌, Bool, true, false, if◌then◌else◌, length, Some, Ok, Err, refl, ap, sym, ◌∙◌}
use Rattle.std.proofs.lemmas.Bool.{eq-eqb}
use Rattle.present_queue.specs.Queue.{answer_to_display, most_entries}
use Rattle.vd_status.specs.declared.refusal.Refusal.{Refusal}
use Rattle.vd_status.specs.declared.refusal.Refusal.TheVariants.{QueueFull}
use Rattle.driver_model.specs.Objects.{OutputSurface, PresentationQueue, as_output, as_queue}
use Rattle.driver_model.specs.Queues.{QueueAndSurface, presented, queue, queue_display}
use Rattle.driver_model.specs.Refusals.{Looked, ◌>>=◌, ◌>>◌, further_handle}
use Rattle.driver_model.specs.States.{State, Found, content_at, named}
use Rattle.driver_model.proofs.Looks.{err_not_ok, ok_is, then_ok, unless_ok}
use Rattle.plain_driver.specs.Looks.{device_at, placed}
use Rattle.plain_driver.specs.Presenting.{both_placed}
use Rattle.plain_driver.specs.declared.queues.Places.{Places}
use Rattle.plain_driver.proofs.Goes.{at_place, placed-Ok, placed-Err, some_one}

places_are : (a b : Places) → (let m : Looked Places = Ok a in m ≡ Ok b) → a ≡ b
places_are a b e = cc

pub both_placed-Ok : (looked : Looked QueueAndSurface) (places : Places) → Ok places ≡ both_placed looked → (found : QueueAndSurface) × (looked ≡ Ok found) × (found.queue.place ≡ places.queue) × (found.surface.place ≡ places.surface)
both_placed-Ok (Ok found) places e =
    let same = places_are places (record { queue = found.queue.place; surface = found.surface.place }) e in
    (found, refl, sym (ap (λ (p : Places). p.queue) same), sym (ap (λ (p : Places). p.surface) same))
both_placed-Ok (Err refusal) places e = absurd (err_not_ok refusal places (sym e))

module _ (s : State) (handle surface : ℕ) where
  with_surface : Found PresentationQueue → Found OutputSurface → Looked QueueAndSurface
  with_surface on of = Ok (record { queue = on; surface = of })

  behind_queue : Found PresentationQueue → Looked QueueAndSurface
  behind_queue on = further_handle 1 on.device (named s as_output surface) >>= with_surface on

  further_by : (queue device : ℕ) → device_at s queue ≡ device → further_handle 1 (device_at s queue) (named s as_output surface) ≡ further_handle 1 device (named s as_output surface)
  further_by queue device is = ap (λ d. further_handle 1 d (named s as_output surface)) is

  pub presented-ok : (place of : ℕ) → Ok place ≡ placed (queue s handle) → Ok of ≡ placed (further_handle 1 (device_at s place) (named s as_output surface)) → Ok (record { queue = place; surface = of }) ≡ both_placed (presented s handle surface)
  unfolding behind_queue with_surface
  presented-ok place of told further =
      let on = at_place as_queue handle s place told in
      let shown = placed-Ok (further_handle 1 (device_at s place) (named s as_output surface)) of further in
      let there : further_handle 1 on.found.device (named s as_output surface) ≡ Ok shown.0 = sym (further_by place on.found.device on.device) ∙ shown.1 in
      sym (ap (λ m. both_placed (m >>= behind_queue)) on.is
      ∙ (ap (λ m. both_placed (m >>= with_surface on.found)) there
      ∙ (ap (λ p. let x : Places = record { queue = p; surface = shown.0.place } in Ok x) on.at ∙ ap (λ p. let x : Places = record { queue = place; surface = p } in Ok x) shown.2)))

  pub presented-err : (place : ℕ) (refusal : Refusal) → Ok place ≡ placed (queue s handle) → Err refusal ≡ placed (further_handle 1 (device_at s place) (named s as_output surface)) → Err refusal ≡ both_placed (presented s handle surface)
  unfolding behind_queue with_surface
  presented-err place refusal told further =
      let on = at_place as_queue handle s place told in
      let none = placed-Err (further_handle 1 (device_at s place) (named s as_output surface)) refusal further in
      let there : further_handle 1 on.found.device (named s as_output surface) ≡ Err refusal = sym (further_by place on.found.device on.device) ∙ none in
      sym (ap (λ m. both_placed (m >>= behind_queue)) on.is ∙ ap (λ m. both_placed (m >>= with_surface on.found)) there)

  -- what was found, by its places
  pub record BothAt (looked : Looked QueueAndSurface) (places : Places) : Type 0 where
    pub found : QueueAndSurface
    pub is : looked ≡ Ok found
    pub queue_at : found.queue.place ≡ places.queue
    pub surface_at : found.surface.place ≡ places.surface
    pub content : content_at s as_queue places.queue ≡ Some found.queue.value
    pub below : places.queue < length s.objects

  both_at : (looked : Looked QueueAndSurface) (found : QueueAndSurface) (places : Places) → looked ≡ Ok found → presented s handle surface ≡ Ok found → found.queue.place ≡ places.queue → found.surface.place ≡ places.surface → BothAt looked places
  unfolding behind_queue with_surface
  both_at looked found places is told queue_is surface_is =
      let one = then_ok (queue s handle) behind_queue found told in
      let two = then_ok (further_handle 1 one.0.device (named s as_output surface)) (with_surface one.0) found one.2 in
      let same : one.0 ≡ found.queue = ap (λ (f : QueueAndSurface). f.queue) (ok_is (record { queue = one.0; surface = two.0 }) found two.2) in
      let first : Ok places.queue ≡ placed (queue s handle) = sym (ap placed one.1 ∙ ap Ok (ap (λ (f : Found PresentationQueue). f.place) same ∙ queue_is)) in
      let on = at_place as_queue handle s places.queue first in
      let here : on.found ≡ found.queue = ok_is on.found found.queue (sym on.is ∙ (one.1 ∙ ap Ok same)) in
      record {
        found = found;
        is = is;
        queue_at = queue_is;
        surface_at = surface_is;
        content = on.content ∙ ap (λ (f : Found PresentationQueue). Some f.value) here;
        below = on.below;
      }

  pub presented-at : (places : Places) → Ok places ≡ both_placed (presented s handle surface) → BothAt (presented s handle surface) places
  presented-at places told =
      let all = both_placed-Ok (presented s handle surface) places told in
      both_at (presented s handle surface) all.0 places all.1 all.1 all.2 all.3

  -- ---- room for one more entry

  module _ (earliest : ℕ) where
    behind_both : QueueAndSurface → Looked QueueAndSurface
    behind_both on = answer_to_display on.queue.value.queue earliest >> Ok on

    pub display-ok : (places : Places) (of : PresentationQueue) → Ok places ≡ both_placed (presented s handle surface) → content_at s as_queue places.queue ≡ Some of → Ok tt ≡ answer_to_display of.queue earliest → Ok places ≡ both_placed (queue_display s handle surface earliest)
    unfolding behind_both
    display-ok places of told is room =
        let on = presented-at places told in
        let same : of ≡ on.found.queue.value = some_one of on.found.queue.value (sym is ∙ on.content) in
        sym (ap (λ m. both_placed (m >>= behind_both)) on.is
        ∙ (ap (λ m. both_placed (m >> Ok on.found)) (ap (λ (v : PresentationQueue). answer_to_display v.queue earliest) (sym same) ∙ sym room)
        ∙ (ap (λ p. let x : Places = record { queue = p; surface = on.found.surface.place } in Ok x) on.queue_at ∙ ap (λ p. let x : Places = record { queue = places.queue; surface = p } in Ok x) on.surface_at)))

    pub display-err : (places : Places) (of : PresentationQueue) (refusal : Refusal) → Ok places ≡ both_placed (presented s handle surface) → content_at s as_queue places.queue ≡ Some of → Err refusal ≡ answer_to_display of.queue earliest → Err refusal ≡ both_placed (queue_display s handle surface earliest)
    unfolding behind_both
    display-err places of refusal told is room =
        let on = presented-at places told in
        let same : of ≡ on.found.queue.value = some_one of on.found.queue.value (sym is ∙ on.content) in
        sym (ap (λ m. both_placed (m >>= behind_both)) on.is
        ∙ ap (λ m. both_placed (m >> Ok on.found)) (ap (λ (v : PresentationQueue). answer_to_display v.queue earliest) (sym same) ∙ sym room))

    pub display-at : (places : Places) → Ok places ≡ both_placed (queue_display s handle surface earliest) → BothAt (queue_display s handle surface earliest) places
    unfolding behind_both
    display-at places told =
        let all = both_placed-Ok (queue_display s handle surface earliest) places told in
        let one = then_ok (presented s handle surface) behind_both all.0 all.1 in
        let two = unless_ok (answer_to_display one.0.queue.value.queue earliest) (Ok one.0) all.0 one.2 in
        both_at (queue_display s handle surface earliest) all.0 places all.1 (one.1 ∙ two.1) all.2 all.3

    full_is_told : (full : Bool) (other : Looked (Unit {0})) → (if full then Err QueueFull else other) ≡ Ok tt → full ≡ false
    full_is_told true other e = absurd (err_not_ok QueueFull tt e)
    full_is_told false other e = refl

    pub display_has_room : (places : Places) → Ok places ≡ both_placed (queue_display s handle surface earliest) → (of : PresentationQueue) → content_at s as_queue places.queue ≡ Some of → length of.queue.entries ≢ most_entries
    unfolding behind_both
    display_has_room places told of is full =
        let all = both_placed-Ok (queue_display s handle surface earliest) places told in
        let one = then_ok (presented s handle surface) behind_both all.0 all.1 in
        let two = unless_ok (answer_to_display one.0.queue.value.queue earliest) (Ok one.0) all.0 one.2 in
        let on = display-at places told in
        let found : all.0 ≡ on.found = ok_is all.0 on.found (sym all.1 ∙ on.is) in
        let here : one.0 ≡ on.found = ok_is one.0 all.0 two.1 ∙ found in
        let same : of ≡ on.found.queue.value = some_one of on.found.queue.value (sym is ∙ on.content) in
        let count : length one.0.queue.value.queue.entries ≡ most_entries = ap (λ (f : QueueAndSurface). length f.queue.value.queue.entries) here ∙ (ap (λ (v : PresentationQueue). length v.queue.entries) (sym same) ∙ full) in
        let none : (length one.0.queue.value.queue.entries == most_entries) ≡ false = full_is_told (length one.0.queue.value.queue.entries == most_entries) _ two.0 in
        let k : true ≡ false = sym (eq-eqb (length one.0.queue.value.queue.entries) most_entries count) ∙ none in
        cc
