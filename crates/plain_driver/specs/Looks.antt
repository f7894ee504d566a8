-- How the program finds objects: by the number of their kind and their name, to a place in the list of all objects ever made.
use Rattle.std.specs.Prelude.{ℕ, ◌==◌, Bool, false, ◌&&◌, if◌then◌else◌, Option, Some, None, Ok, Err, slice_get, position, List, count_by}
use Rattle.std.specs.Option.{option_map_or}
use Rattle.vd_status.specs.declared.refusal.Refusal.TheVariants.{DeviceMismatch, InvalidHandle, Preempted}
use Rattle.driver_model.specs.Objects.{Content, Object, as_device, kind_number}
use Rattle.driver_model.specs.Refusals.{Looked}
use Rattle.driver_model.specs.States.{State, Found, is_preempted}
use Rattle.plain_driver.specs.States.{content_of}
use Rattle.plain_driver.specs.declared.objects.PlainObject.{PlainObject}

-- the object is live, of this kind, and has this name
abbrev pub is_called : ℕ → ℕ → Object → Bool
is_called kind name object = (object.is_live && object.name == name) && kind_number object.content == kind

-- the place of the first such object
abbrev pub place_of : State → ℕ → ℕ → Option ℕ
place_of s kind name = position (is_called kind name) s.objects

-- the place of the device of the object at a place
abbrev pub device_at : State → ℕ → ℕ
device_at s place = option_map_or (λ object. object.device) (slice_get s.objects place) 0

-- what is told of an object that was found: its place
abbrev pub placed : {T : Type 0} → Looked (Found T) → Looked ℕ
placed (Ok found) = Ok found.place
placed (Err refusal) = Err refusal

-- whether this is a preempted device
abbrev pub is_preempted_in : Content → Bool
is_preempted_in content = option_map_or (λ of. of.is_preempted) (as_device content) false

-- a handle at this number among a call's names an object, whose device isn't preempted
abbrev pub used_at : State → ℕ → Option ℕ → Looked ℕ
used_at s arg None = Err (InvalidHandle arg)
used_at s arg (Some place) = if is_preempted s (device_at s place) then Err Preempted else Ok place

-- a further handle, whose object is of this device
abbrev pub further_at : State → ℕ → ℕ → Option ℕ → Looked ℕ
further_at s arg device None = Err (InvalidHandle arg)
further_at s arg device (Some place) = if device_at s place == device then Ok place else Err (DeviceMismatch arg)

-- ---- how many objects of a kind live

abbrev pub is_live_of : ℕ → PlainObject → Bool
is_live_of kind object = object.is_live && kind_number (content_of object.content) == kind

abbrev pub live_of : ℕ → List PlainObject → ℕ
live_of kind objects = count_by (is_live_of kind) objects
