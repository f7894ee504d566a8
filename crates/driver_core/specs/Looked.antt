-- What looks at handles find among the kept objects. No public clause cites this module.
use Rattle.std.specs.Prelude.{◌≡◌, ◌≢◌, ◌⊎◌, ℕ, Bool, true, false, List, slice_get, Some, None, Result, Ok, Err}
use Rattle.vd_status.specs.declared.refusal.Refusal.{Refusal}
use Rattle.vd_status.specs.declared.refusal.Refusal.TheVariants.{DeviceMismatch, InvalidHandle, Preempted}
use Rattle.driver_objects.specs.Contents.{HasDevice}
use Rattle.driver_objects.specs.Listed.{IsOnly, called}
use Rattle.driver_objects.specs.declared.content.Device.{Device}
use Rattle.driver_objects.specs.declared.object.Object.{Object}

-- the device of the object at this place of the list is preempted, or isn't
pub record IsPreempted (kept : List Object) (index : ℕ) (is_preempted : Bool) : Type 0 where
  pub object : Object
  pub stands : slice_get kept index ≡ Some object
  pub device : Device
  pub has_device : HasDevice kept object.device device
  pub is : device.is_preempted ≡ is_preempted

-- what is found by a kind and a name on a device that isn't preempted, or why nothing is
abbrev pub IsInUse : List Object → (arg kind name : ℕ) → Result ℕ Refusal → Type 0
IsInUse kept arg kind name (Ok index) = IsOnly (called kind name) kept (Some index) × IsPreempted kept index false
IsInUse kept arg kind name (Err refusal) =
    ((refusal ≡ InvalidHandle arg) × IsOnly (called kind name) kept None)
    ⊎ ((refusal ≡ Preempted) × (index : ℕ) × IsOnly (called kind name) kept (Some index) × IsPreempted kept index true)

-- what is found by a kind and a name that has to be of this device, or why nothing is
abbrev pub IsFurther : List Object → (arg kind name device : ℕ) → Result ℕ Refusal → Type 0
IsFurther kept arg kind name device (Ok index) =
    IsOnly (called kind name) kept (Some index) × ((object : Object) → slice_get kept index ≡ Some object → object.device ≡ device)
IsFurther kept arg kind name device (Err refusal) =
    ((refusal ≡ InvalidHandle arg) × IsOnly (called kind name) kept None)
    ⊎ ((refusal ≡ DeviceMismatch arg)
    × (index : ℕ)
    × IsOnly (called kind name) kept (Some index)
    × ((object : Object) → slice_get kept index ≡ Some object → object.device ≢ device))
