-- Which items of a history count, and as what.
use Rattle.std.specs.Prelude.{ℕ, Bool, true, false, not, ◌&&◌, ◌||◌, if◌then◌else◌, List, [], ◌∷◌, count_by, filter_map, Option, Some, None, Ok, Err}
use Rattle.vd_status.specs.declared.refusal.Refusal.TheVariants.{HandlesFull, OutOfMemory}
use Rattle.driver_model.specs.Answers.{Reply}
use Rattle.driver_model.specs.Parts.{name_given}
use Rattle.driver_model.specs.declared.calls.Call.{Call}
use Rattle.driver_model.specs.declared.calls.Call.TheVariants as call
use Rattle.driver_model.specs.declared.items.Item.{Item}
use Rattle.driver_model.specs.declared.items.Item.TheVariants.{Called, Ended}

-- the call was not refused
abbrev pub is_done : Reply → Bool
is_done (Ok answer) = true
is_done (Err refusal) = false

abbrev pub is_device_create : Call → Bool
is_device_create call.DeviceCreate = true
is_device_create _ = false

abbrev pub is_queue_create : Call → Bool
is_queue_create (call.QueueCreate device window) = true
is_queue_create _ = false

abbrev pub is_render : Call → Bool
is_render (call.Render decoder target info bytes) = true
is_render _ = false

abbrev pub is_display : Call → Bool
is_display (call.QueueDisplay queue surface earliest) = true
is_display _ = false

abbrev pub is_poll : Call → Bool
is_poll (call.Poll wishes) = true
is_poll _ = false

-- want of memory, or of names or places for objects
abbrev pub is_want : Reply → Bool
is_want (Err OutOfMemory) = true
is_want (Err (HandlesFull live given)) = true
is_want _ = false

-- the entry was made with such a call
abbrev pub is_call : (Call → Bool) → Item → Bool
is_call test (Called entry) = test entry.call
is_call test (Ended mark) = false

-- and the call was done
abbrev pub has_done : (Call → Bool) → Item → Bool
has_done test (Called entry) = test entry.call && is_done entry.reply
has_done test (Ended mark) = false

-- A counted item is any but a poll, and but an entry with want of memory or of handles as its reply.
abbrev pub is_counted : Item → Bool
is_counted (Called entry) = not (is_poll entry.call || is_want entry.reply)
is_counted (Ended mark) = true

-- how many renders were done
abbrev pub renders_in : List Item → ℕ
renders_in items = count_by (has_done is_render) items

abbrev pub displays_in : List Item → ℕ
displays_in items = count_by (has_done is_display) items

-- the name that the item gives to a device
abbrev pub device_made : Item → Option ℕ
device_made (Called entry) = if is_device_create entry.call then name_given entry.reply else None
device_made (Ended mark) = None

-- the devices that these items made
abbrev pub devices_made : List Item → List ℕ
devices_made items = filter_map device_made items

-- the first of them
abbrev pub first_of : List ℕ → Option ℕ
first_of [] = None
first_of (name ∷ names) = Some name

abbrev pub device_of : List Item → Option ℕ
device_of items = first_of (devices_made items)
