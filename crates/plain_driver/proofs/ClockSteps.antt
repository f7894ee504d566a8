-- The steps of calls on devices that found no fault.
use Rattle.std.proofs.Common.{◌≡◌, ℕ, nat_le, true, false, List, map, Option, Some, None, Ok, Err, refl, ap, sym, ◌∙◌, subst}
use Rattle.std.specs.List.{list_any}
use Rattle.std.specs.Option.{ok_or, option_map}
use Rattle.std.specs.Result.{IsOkAnd}
use Rattle.vd_status.specs.declared.refusal.Refusal.{Refusal}
use Rattle.vd_status.specs.declared.refusal.Refusal.TheVariants.{InvalidHandle, TimeNotAfter}
use Rattle.driver_model.specs.Answers.{Leaves}
use Rattle.driver_model.specs.Clock as clock
use Rattle.driver_model.specs.Clock.{Due, advance, all_due, destroyed_on, device, device_destroy, flip_of, is_tick_held, ticked_at}
use Rattle.driver_model.specs.Objects.{Device, DeviceObject, as_device}
use Rattle.driver_model.specs.Refusals.{Looked, ◌>>=◌, ◌>>◌, refused_if}
use Rattle.driver_model.specs.States.{State, Found, content_at, is_out, named, with_content}
use Rattle.driver_model.specs.Waits.{Waits}
use Rattle.driver_model.specs.declared.calls.Call.TheVariants as call
use Rattle.driver_model.specs.declared.numbers.TheConstants.{DEVICE}
use Rattle.driver_model.specs.declared.replies.Answer.TheVariants.{Done, Flips}
use Rattle.driver_model.specs.declared.replies.Flipped.{Flipped}
use Rattle.driver_model.proofs.Looks.{ok_is, then_ok, unless_ok}
use Rattle.plain_driver.specs.Looks.{place_of, placed}
use Rattle.plain_driver.specs.Ticking.{due_of, with_all_shown}
use Rattle.plain_driver.specs.declared.queues.Places.{Places}
use Rattle.plain_driver.proofs.Changed.{list_any-map}
use Rattle.plain_driver.proofs.Finding.{place_in-named}
use Rattle.plain_driver.proofs.Goes.{at_place, goes_err, goes_ok, placed-Ok, some_one}
use Rattle.plain_driver.proofs.KindNumbers.{device_kind}

-- ---- a device's end

named_by : (found : Option (Found Device)) (place : ℕ) → option_map (λ f. f.place) found ≡ Some place → (f : Found Device) × (found ≡ Some f) × (f.place ≡ place)
named_by None place e = absurd (let k : (let o : Option ℕ = None in o ≡ Some place) = e in cc)
named_by (Some f) place e = (f, refl, some_one f.place place e)

unnamed_by : (found : Option (Found Device)) → option_map (λ f. f.place) found ≡ None → found ≡ None
unnamed_by None e = refl
unnamed_by (Some f) e = absurd (let k : (let o : Option ℕ = None in o ≡ Some f.place) = sym e in cc)

pub device_destroyed : (s : State) (handle place : ℕ) (new : State) → place_of s DEVICE handle ≡ Some place → (let after : State = record s { objects = map (destroyed_on place) s.objects } in new ≡ after) → clock.DeviceDestroy s (Ok Done) new handle
device_destroyed s handle place new told after =
    let on = named_by (named s as_device handle) place (place_in-named as_device DEVICE device_kind handle s ∙ told) in
    goes_ok s (Ok Done) new (device_destroy s handle) (λ x. Leaves s (Ok Done) new (let t : State = record s { objects = map (destroyed_on x.place) s.objects } in t)) on.0 (ap (λ o. ok_or o (InvalidHandle 0)) on.1)
    (refl, after ∙ ap (λ p. let t : State = record s { objects = map (destroyed_on p) s.objects } in t) (sym on.2))

pub device_unknown : (s : State) (handle : ℕ) → place_of s DEVICE handle ≡ None → clock.DeviceDestroy s (Err (InvalidHandle 0)) s handle
device_unknown s handle told =
    let none = unnamed_by (named s as_device handle) (place_in-named as_device DEVICE device_kind handle s ∙ told) in
    goes_err s (Err (InvalidHandle 0)) s (device_destroy s handle) (λ x. Leaves s (Err (InvalidHandle 0)) s (let t : State = record s { objects = map (destroyed_on x.place) s.objects } in t)) (InvalidHandle 0) (ap (λ o. ok_or o (InvalidHandle 0)) none) refl refl

pub device_preempted : (s : State) (handle place : ℕ) (of : Device) (new : State) → Ok place ≡ placed (device s handle) → content_at s as_device place ≡ Some of
    → new ≡ with_content s place (DeviceObject (record of { is_preempted = true })) → clock.Preempt s (Ok Done) new handle
device_preempted s handle place of new told is after =
    let on = at_place as_device handle s place told in
    let same : of ≡ on.found.value = some_one of on.found.value (sym is ∙ on.content) in
    goes_ok s (Ok Done) new (device s handle) (λ x. Leaves s (Ok Done) new (with_content s x.place (DeviceObject (record x.value { is_preempted = true })))) on.found on.is
    (refl, after ∙ (ap (λ (v : Device). with_content s place (DeviceObject (record v { is_preempted = true }))) same ∙ ap (λ p. with_content s p (DeviceObject (record on.found.value { is_preempted = true }))) (sym on.at)))

-- ---- a tick

module _ (s : State) (handle time : ℕ) where
  behind_device : Found Device → Looked (Found Device)
  behind_device on = refused_if (nat_le time on.value.time) (TimeNotAfter on.value.time) >> Ok on

  pub advance-ok : (place : ℕ) (of : Device) → Ok place ≡ placed (device s handle) → content_at s as_device place ≡ Some of → Ok tt ≡ refused_if (nat_le time of.time) (TimeNotAfter of.time) → Ok place ≡ placed (advance s handle time)
  unfolding behind_device
  advance-ok place of told is later =
      let on = at_place as_device handle s place told in
      let same : of ≡ on.found.value = some_one of on.found.value (sym is ∙ on.content) in
      sym (ap (λ m. placed (m >>= behind_device)) on.is
      ∙ (ap (λ m. placed (m >> Ok on.found)) (ap (λ (v : Device). refused_if (nat_le time v.time) (TimeNotAfter v.time)) (sym same) ∙ sym later)
      ∙ ap Ok on.at))

  pub advance-err : (place : ℕ) (of : Device) (refusal : Refusal) → Ok place ≡ placed (device s handle) → content_at s as_device place ≡ Some of → Err refusal ≡ refused_if (nat_le time of.time) (TimeNotAfter of.time) → Err refusal ≡ placed (advance s handle time)
  unfolding behind_device
  advance-err place of refusal told is later =
      let on = at_place as_device handle s place told in
      let same : of ≡ on.found.value = some_one of on.found.value (sym is ∙ on.content) in
      sym (ap (λ m. placed (m >>= behind_device)) on.is
      ∙ ap (λ m. placed (m >> Ok on.found)) (ap (λ (v : Device). refused_if (nat_le time v.time) (TimeNotAfter v.time)) (sym same) ∙ sym later))

  pub record TickAt (place : ℕ) : Type 0 where
    pub found : Found Device
    pub is : advance s handle time ≡ Ok found
    pub at : found.place ≡ place
    pub first : Ok place ≡ placed (device s handle)
    pub content : content_at s as_device place ≡ Some found.value

  pub advance-at : (place : ℕ) → Ok place ≡ placed (advance s handle time) → TickAt place
  unfolding behind_device
  advance-at place told =
      let all = placed-Ok (advance s handle time) place told in
      let one = then_ok (device s handle) behind_device all.0 all.1 in
      let two = unless_ok (refused_if (nat_le time one.0.value.time) (TimeNotAfter one.0.value.time)) (Ok one.0) all.0 one.2 in
      let same : one.0 ≡ all.0 = ok_is one.0 all.0 two.1 in
      let first : Ok place ≡ placed (device s handle) = sym (ap placed one.1 ∙ ap Ok (ap (λ (f : Found Device). f.place) same ∙ all.2)) in
      let on = at_place as_device handle s place first in
      let here : on.found ≡ all.0 = ok_is on.found all.0 (sym on.is ∙ (one.1 ∙ ap Ok same)) in
      record { found = all.0; is = all.1; at = all.2; first = first; content = on.content ∙ ap (λ (f : Found Device). Some f.value) here }

  pub advances : (place : ℕ) (of : Device) (flips : List Flipped) (put new : State) → Ok place ≡ placed (advance s handle time) → content_at s as_device place ≡ Some of → is_tick_held s place time ≡ false
      → flips ≡ map (flip_of s time) (all_due s place time)
      → put ≡ with_content s place (DeviceObject (record of { time = time }))
      → new ≡ with_all_shown put time (all_due s place time)
      → clock.Advance s (Ok (Flips flips)) new handle time
  advances place of flips put new told is home shown is_put after =
      let on = advance-at place told in
      let same : of ≡ on.found.value = some_one of on.found.value (sym is ∙ on.content) in
      let timed : put ≡ with_content s place (DeviceObject (record on.found.value { time = time })) = is_put ∙ ap (λ (v : Device). with_content s place (DeviceObject (record v { time = time }))) same in
      goes_ok s (Ok (Flips flips)) new (advance s handle time) (λ x. (is_tick_held s x.place time ≡ false) × (Ok (Flips flips) ≡ Ok (Flips (map (flip_of s time) (all_due s x.place time)))) × (new ≡ ticked_at s x time)) on.found on.is (
        ap (λ p. is_tick_held s p time) on.at ∙ home,
        ap (λ fs. Ok (Flips fs)) shown ∙ ap (λ p. Ok (Flips (map (flip_of s time) (all_due s p time)))) (sym on.at),
        after ∙ (ap (λ t. with_all_shown t time (all_due s place time)) timed ∙ ap (λ p. ticked_at s (record on.found { place = p }) time) (sym on.at)),
      )

-- whether a tick is held, by the places of what is due
pub held_is : (s : State) (place time : ℕ) (dues : List Places) → map due_of dues ≡ all_due s place time → list_any (λ (due : Places). is_out s due.surface) dues ≡ is_tick_held s place time
held_is s place time dues are = sym (list_any-map due_of (λ (due : Due). is_out s due.surface) dues) ∙ ap (list_any (λ (due : Due). is_out s due.surface)) are

pub waits_for_tick : (s : State) (handle time place : ℕ) → Ok place ≡ placed (advance s handle time) → is_tick_held s place time ≡ true → Waits s (call.Advance handle time)
waits_for_tick s handle time place told held =
    let on = advance-at s handle time place told in
    subst (λ looked. IsOkAnd looked (λ found. is_tick_held s found.place time ≡ true)) (sym on.is) (ap (λ p. is_tick_held s p time) on.at ∙ held)
