-- Several calls of one caller, one after the other.
use Rattle.std.specs.Prelude.{◌≡◌, ℕ, Bool, true, false, if◌then◌else◌, List, [], ◌∷◌, ◌++◌, filter_map, Option, None, Err}
use Rattle.vd_status.specs.declared.refusal.Refusal.TheVariants.{HandlesFull}
use Rattle.device_lock.specs.declared.view.View.{View}
use Rattle.driver_model.specs.Parts.{name_given}
use Rattle.driver_model.specs.Passes.{Adds}
use Rattle.driver_model.specs.declared.calls.Call.{Call}
use Rattle.driver_model.specs.declared.calls.Call.TheVariants as call
use Rattle.driver_model.specs.declared.items.Entry.{Entry}
use Rattle.driver_model.specs.declared.items.Item.{Item}
use Rattle.driver_model.specs.declared.items.Item.TheVariants.{Called, Ended}
use Rattle.stream_calls.specs.Counted.{first_of, is_queue_create}

-- Each of these items was added to the caller's pass, one after the other, and nothing else.
unfoldable pub AddsAll : View Item → List Item → View Item → Type 0
AddsAll before [] after = after ≡ before
AddsAll before (item ∷ items) after = (between : View Item) × (place : ℕ) × Adds before item place between × AddsAll between items after

-- the name that the item gives to a queue
abbrev pub queue_made : Item → Option ℕ
queue_made (Called entry) = if is_queue_create entry.call then name_given entry.reply else None
queue_made (Ended mark) = None

-- the first queue that these items made
abbrev pub queue_of : List Item → Option ℕ
queue_of items = first_of (filter_map queue_made items)

-- The call makes an object.
abbrev pub is_create : Call → Bool
is_create call.DeviceCreate = true
is_create (call.VideoCreate device chroma width height) = true
is_create (call.OutputCreate device format width height) = true
is_create (call.DecoderCreate device profile width height max_references) = true
is_create (call.MixerCreate device width height) = true
is_create (call.QueueCreate device window) = true
is_create _ = false

-- The last of these items is a create for which there was no room: so many objects lived, and so many names were given.
pub record EndsFull (items : List Item) (live given : ℕ) : Type 0 where
  pub before : List Item
  pub entry : Entry
  pub last : items ≡ before ++ Called entry ∷ []
  pub create : is_create entry.call ≡ true
  pub refused : entry.reply ≡ Err (HandlesFull live given)
