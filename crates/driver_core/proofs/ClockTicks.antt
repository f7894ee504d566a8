-- Ticks of a device's clock: what a handle and a time find, and the step that is taken.
use Rattle.std.proofs.Common.{◌≡◌, ℕ, ◌<◌, ◌||◌, true, false, List, [], ◌∷◌, map, slice_get, Some, Ok, inr, refl, sym, ap, ◌∙◌, subst, arith}
use Rattle.std.specs.List.{list_any}
use Rattle.std.specs.Option.{option_and_then}
use Rattle.std.specs.Prelude.{nat_le}
use Rattle.std.specs.Result.{IsOkAnd}
use Rattle.std.proofs.lemmas.Bool.Decides.{nat_tests}
use Rattle.vd_status.specs.declared.refusal.Refusal.TheVariants.{TimeNotAfter}
use Rattle.driver_model.specs.Clock as clock
use Rattle.driver_model.specs.Objects as model
use Rattle.driver_model.specs.Refusals.{Looked, ◌>>=◌, ◌>>◌, refused_if}
use Rattle.driver_model.specs.States.{Found, State, is_out}
use Rattle.driver_model.specs.Steps.{Step}
use Rattle.driver_model.specs.Waits.{FoundAnd}
use Rattle.driver_model.specs.declared.calls.Call.TheVariants as call
use Rattle.driver_model.specs.declared.replies.Answer.TheVariants as answer
use Rattle.driver_objects.specs.Flips.{flipped}
use Rattle.driver_objects.specs.Kept.{kept_of}
use Rattle.driver_objects.specs.Ticks.{placed}
use Rattle.driver_objects.specs.declared.content.Content.TheVariants as content
use Rattle.driver_objects.specs.declared.content.Device.{Device}
use Rattle.driver_objects.specs.declared.object.Object.{Object}
use Rattle.driver_objects.specs.declared.flips.Flips.{Flips}
use Rattle.driver_objects.specs.declared.ticks.Due.{Due}
use Rattle.driver_objects.proofs.Lists.{one_kept}
use Rattle.driver_core.specs.Clocked.{AreDue, IsTicking, ShowsAll, is_any_out}
use Rattle.driver_core.specs.Found.{IsFound}
use Rattle.driver_core.specs.Stands.{IsContent, Stands, is_owed}
use Rattle.driver_core.specs.declared.driver.Core.{Core}
use Rattle.driver_core.proofs.DueQueues.{dues_of}
use Rattle.driver_core.proofs.DuesOf.{dues_same}
use Rattle.driver_core.proofs.Handles.{device_of}
use Rattle.driver_core.proofs.Steps.{finding}

-- a clock that stands before the time
after_looks : ℕ → Looked (Found model.Device) → Looked (Found model.Device)
after_looks time looked = looked >>= (λ on. refused_if (nat_le time on.value.time) (TimeNotAfter on.value.time) >> Ok on)

pub clock_finds : (core : Core) (d : State) (name time index : ℕ) (of : Device) → Stands core d → IsFound model.as_device (λ device. model.DeviceObject device) core 0 name d index (content.Device of) → of.time < time
    → (object : Object) → slice_get (kept_of core.objects) index ≡ Some object → IsTicking d name time object.place
unfolding after_looks
clock_finds core d name time index of stands f before object there =
    let same : f.object ≡ object = one_kept (kept_of core.objects) index f.object object f.there there in
    let times = f.is.0 in
    let test : nat_le time f.value.time ≡ false = grind (arith, nat_tests, before, times) in
    let on : Found model.Device = record { place = f.object.place; device = f.object.device; value = f.value } in
    let k = stands.kept index f.object f.there in
    let kept = device_of core.queues (is_owed d f.object.place) k.0.content of (subst (IsContent core.queues (is_owed d f.object.place) k.0.content) f.has k.3.content) in
    let value : kept.0 ≡ f.value = λ i. record { time = (sym kept.2 ∙ f.is.0) i; is_preempted = (sym kept.3 ∙ f.is.1) i } in
    record {
      on = on;
      looks = ap (after_looks time) f.looks ∙ ap (λ b. refused_if b (TimeNotAfter f.value.time) >> Ok on) test;
      at_place = ap (λ (o : Object). o.place) same;
      has = ap (λ (o : Object). option_and_then (λ (x : model.Object). model.as_device x.content) (slice_get d.objects o.place)) (sym same)
          ∙ (ap (option_and_then (λ (x : model.Object). model.as_device x.content)) k.1 ∙ (ap model.as_device kept.1 ∙ ap Some value));
    }

any_placed : (d : State) (dues : List Due) → is_any_out d dues ≡ list_any (λ (due : clock.Due). is_out d due.surface) (map placed dues)
any_placed d [] = refl
any_placed d (due ∷ later) = λ i. is_out d due.surface || any_placed d later i

-- the surfaces that are to be shown are those of the state
pub held_same : (core : Core) (d : State) (on time : ℕ) → Stands core d → (dues : List Due) → dues ≡ dues_of core on time → is_any_out d dues ≡ clock.is_tick_held d on time
held_same core d on time stands dues are =
    any_placed d dues ∙ ap (list_any (λ (due : clock.Due). is_out d due.surface)) (ap (map placed) are ∙ dues_same core d on time stands)

map_placed : {Z : Type 0} (f : clock.Due → Z) (dues : List Due) → map (λ (due : Due). f (placed due)) dues ≡ map f (map placed dues)
map_placed f [] = refl
map_placed f (due ∷ later) = ap (λ rest. f (placed due) ∷ rest) (map_placed f later)

-- the flips are those of the state
pub flips_same : (core : Core) (d : State) (on time : ℕ) → Stands core d → (dues : List Due) → dues ≡ dues_of core on time
    → map (λ (due : Due). clock.flip_of d time (placed due)) dues ≡ map (clock.flip_of d time) (clock.all_due d on time)
flips_same core d on time stands dues are =
    map_placed (clock.flip_of d time) dues ∙ ap (map (clock.flip_of d time)) (ap (map placed) are ∙ dues_same core d on time stands)

module _ (core : Core) (d : State) (name time place : ℕ) (stands : Stands core d) (ticks : IsTicking d name time place) (dues : List Due) (are : AreDue core place time dues) where
  -- a call that waits
  pub tick_waits : is_any_out d dues ≡ true → FoundAnd (clock.advance d name time) (λ on. clock.is_tick_held d on.place time)
  tick_waits held =
      subst (λ looked. IsOkAnd looked (λ (on : Found model.Device). clock.is_tick_held d on.place time ≡ true)) (sym ticks.looks)
      (ap (λ p. clock.is_tick_held d p time) ticks.at_place ∙ (sym (held_same core d place time stands dues are) ∙ held))

  -- and one that is done
  pub tick_steps : (caller : List ℕ) → is_any_out d dues ≡ false → (flips : Flips) → ShowsAll core time dues flips → Step d caller (call.Advance name time) (Ok (answer.Flips (flipped flips))) (clock.ticked_at d ticks.on time)
  tick_steps caller home flips shows =
      inr (finding _ _ _ _ ticks.looks (
        ap (λ p. clock.is_tick_held d p time) ticks.at_place ∙ (sym (held_same core d place time stands dues are) ∙ home),
        ap (λ fs. Ok (answer.Flips fs)) (shows d stands home ∙ (flips_same core d place time stands dues are ∙ ap (λ p. map (clock.flip_of d time) (clock.all_due d p time)) (sym ticks.at_place))),
        refl,
      ))
