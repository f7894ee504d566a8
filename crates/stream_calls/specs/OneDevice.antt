-- The calls of a stream stay on one device, which they make, and are few.
use Rattle.std.specs.Prelude.{◌≡◌, ◌≢◌, ℕ, ◌+◌, ◌*◌, ◌≤◌, Bool, true, false, List, ◌∷◌, ◌++◌, count_by, slice_get, Some, None}
use Rattle.std.specs.List.{list_any}
use Rattle.driver_model.specs.Histories.{IsStateOf}
use Rattle.driver_model.specs.Parts.{first_name, is_among, names_in, names_of}
use Rattle.driver_model.specs.States.{State}
use Rattle.driver_model.specs.declared.calls.Call.{Call}
use Rattle.driver_model.specs.declared.calls.Call.TheVariants as call
use Rattle.driver_model.specs.declared.items.Entry.{Entry}
use Rattle.driver_model.specs.declared.items.Item.{Item}
use Rattle.driver_model.specs.declared.items.Item.TheVariants.{Called}
use Rattle.player_laws.specs.Room.{given_in, live_made}
use Rattle.stream_calls.specs.Counted.{device_of, has_done, is_call, is_counted, is_device_create, is_done, is_queue_create, renders_in}

-- The calls that a stream leaves to others, or doesn't need: pixels and samples are never put, matrices never set, and clocks are
-- ticked, displays preempted and queues and devices destroyed elsewhere.
abbrev pub is_left_out : Call → Bool
is_left_out (call.VideoPutBits surface format bytes) = true
is_left_out (call.OutputPutBits surface bytes) = true
is_left_out (call.MixerSetMatrix mixer matrix) = true
is_left_out (call.Advance device time) = true
is_left_out (call.Preempt device) = true
is_left_out (call.QueueDestroy queue) = true
is_left_out (call.DeviceDestroy device) = true
is_left_out _ = false

-- The call names something, and nothing but this device and its objects.
pub record NamesTheDevice (seen : List Item) (device : ℕ) (asked : Call) : Type 0 where
  pub some : first_name asked ≢ None
  pub all : (name : ℕ) → is_among (names_in asked) name ≡ true → is_among (names_of seen device) name ≡ true

-- The own items of a caller, in the history that it has seen, of the stream with this number.
pub record StaysOnOneDevice (seen own : List Item) (stream : ℕ) : Type 0 where
  -- Once a device was made, none is asked for.
  pub one_device : (front later : List Item) (entry : Entry)
      → own ≡ front ++ Called entry ∷ later
      → is_device_create entry.call ≡ true
      → is_done entry.reply ≡ true
      → list_any (is_call is_device_create) later ≡ false
  -- Each other entry names that device or objects of it.
  pub on_device : (place : ℕ) (entry : Entry)
      → slice_get own place ≡ Some (Called entry)
      → is_device_create entry.call ≡ false
      → (device : ℕ) × (device_of own ≡ Some device) × NamesTheDevice seen device entry.call
  -- One queue is made at most, and its window has the stream's number.
  pub one_queue : count_by (has_done is_queue_create) own ≤ 1
  pub window : (place : ℕ) (entry : Entry) (device window : ℕ)
      → slice_get own place ≡ Some (Called entry)
      → entry.call ≡ call.QueueCreate device window
      → is_done entry.reply ≡ true
      → window ≡ stream
  pub left_out : list_any (is_call is_left_out) own ≡ false
  -- At each moment at most 63 of the objects that it made live.
  pub live : (front later : List Item) (s : State) → seen ≡ front ++ later → IsStateOf front s → live_made s own ≤ 63
  -- It has made four objects for each picture at most, and six more; and forty items for each picture, and forty more.
  pub made : given_in own ≤ 4 * renders_in own + 6
  pub counted : count_by is_counted own ≤ 40 * (renders_in own + 1)
