-- What is kept, and what the queues are, beside the state, in two halves: all that is needed is kept, and only what is needed is.
-- No public clause cites this module.
use Rattle.std.specs.Prelude.{◌≡◌, ℕ, ◌||◌, true, List, slice_get, Some}
use Rattle.present_queue.specs.Queue.{Queue}
use Rattle.present_queue.specs.Queues.{Surface}
use Rattle.driver_model.specs.Kept.{is_in_queue}
use Rattle.driver_model.specs.Objects as model
use Rattle.driver_model.specs.States.{State}
use Rattle.driver_objects.specs.declared.object.Object.{Object}
use Rattle.driver_core.specs.Stands.{IsContent, IsNeeded, is_owed}

-- what is kept at a place is the object there
pub record IsOf (queues : List (Queue Surface)) (d : State) (one : model.Object) (kept : Object) : Type 0 where
  pub name : kept.name ≡ one.name
  pub device : kept.device ≡ one.device
  pub live : kept.is_live ≡ one.is_live
  pub content : IsContent queues (is_owed d kept.place) one.content kept.content

-- Each object that is kept is one of the state's, and each of those that is needed is kept.
pub record Covers (kept : List Object) (queues : List (Queue Surface)) (d : State) : Type 0 where
  pub is : (i : ℕ) (object : Object) → slice_get kept i ≡ Some object
      → (one : model.Object) × (slice_get d.objects object.place ≡ Some one) × IsOf queues d one object
  pub needed : (place : ℕ) (one : model.Object) → slice_get d.objects place ≡ Some one → IsNeeded d place one
      → (i : ℕ) × (object : Object) × (slice_get kept i ≡ Some object) × (object.place ≡ place)

-- Each object that is kept is needed.
abbrev pub IsAllNeeded : List Object → State → Type 0
IsAllNeeded kept d = (i : ℕ) (object : Object) → slice_get kept i ≡ Some object → (object.is_live || is_in_queue d object.place) ≡ true
