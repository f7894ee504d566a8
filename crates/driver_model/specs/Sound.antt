-- What is true of the queues in the state of each legal history.
use Rattle.std.specs.Prelude.{◌≡◌, ℕ, ◌≤◌, Bool, false, List, length, slice_get, Some, IsSome, MatchOption, ⊤}
use Rattle.present_queue.specs.Queue.{Names, Queue, most_entries}
use Rattle.driver_model.specs.Objects.{Object, as_output}
use Rattle.driver_model.specs.Presented.{queue_in}

-- the object at this place is an output surface of this device
pub record IsOutputOf (objects : List Object) (device place : ℕ) : Type 0 where
  pub object : Object
  pub stands : slice_get objects place ≡ Some object
  pub of_device : object.device ≡ device
  pub is_output : IsSome (as_output object.content)

-- A queue names output surfaces of its own device; one that was destroyed names none; and it has few entries.
pub record IsSoundQueue (objects : List Object) (device : ℕ) (is_live : Bool) (queue : Queue ℕ) : Type 0 where
  pub surfaces : (place : ℕ) → Names queue place → IsOutputOf objects device place
  pub empty : is_live ≡ false → (place : ℕ) → Names queue place → ⊥
  pub few : length queue.entries ≤ most_entries

-- the object is no queue, or a sound one
abbrev pub IsSoundObject : List Object → Object → Type 0
IsSoundObject objects object = MatchOption (queue_in object) ⊤ (IsSoundQueue objects object.device object.is_live)

abbrev pub AreSound : List Object → Type 0
AreSound objects = (place : ℕ) (object : Object) → slice_get objects place ≡ Some object → IsSoundObject objects object
