-- What a tick of a device's clock finds, and what it shows. No public clause cites this module.
use Rattle.std.specs.Prelude.{◌≡◌, ℕ, Bool, false, List, filter_map, map, Some, Ok}
use Rattle.std.specs.List.{list_any}
use Rattle.driver_model.specs.Clock.{advance, flip_of}
use Rattle.driver_model.specs.Objects.{Device, as_device}
use Rattle.driver_model.specs.States.{Found, State, content_at, is_out}
use Rattle.driver_objects.specs.Flips.{flipped}
use Rattle.driver_objects.specs.Kept.{kept_of}
use Rattle.driver_objects.specs.Ticks.{due_of, placed}
use Rattle.driver_objects.specs.declared.flips.Flips.{Flips}
use Rattle.driver_objects.specs.declared.ticks.Due.{Due}
use Rattle.driver_core.specs.Stands.{Stands}
use Rattle.driver_core.specs.declared.driver.Core.{Core}

-- The handle names, in this state, the device at this place, whose clock stands before this time.
pub record IsTicking (d : State) (name time place : ℕ) : Type 0 where
  pub on : Found Device
  pub looks : advance d name time ≡ Ok on
  pub at_place : on.place ≡ place
  pub has : content_at d as_device place ≡ Some on.value

-- so in each state for which the core stands
abbrev pub Ticks : Core → (name time place : ℕ) → Type 0
Ticks core name time place = (d : State) → Stands core d → IsTicking d name time place

-- these are the queues of the device that are due, in the order in which they were made
abbrev pub AreDue : Core → (on time : ℕ) → List Due → Type 0
AreDue core on time dues = dues ≡ filter_map (due_of core.queues on time) (kept_of core.objects)

-- a job writes one of the surfaces that are to be shown
abbrev pub is_any_out : State → List Due → Bool
is_any_out d dues = list_any (λ due. is_out d due.surface) dues

-- The flips are those to the queues that are due, where no job writes what they are to show.
abbrev pub ShowsAll : Core → (time : ℕ) → List Due → Flips → Type 0
ShowsAll core time dues flips =
    (d : State) → Stands core d → is_any_out d dues ≡ false → flipped flips ≡ map (λ due. flip_of d time (placed due)) dues
