-- How many objects live and how many names were given, over several callers; and when each create finds room.
use Rattle.std.specs.Prelude.{◌≡◌, ℕ, ◌≤◌, ◌<◌, ◌==◌, Bool, true, false, ◌&&◌, List, length, sum_by, count_by, filter_map}
use Rattle.std.specs.List.{AllByRecursion, list_any}
use Rattle.std.specs.Option.{is_some, option_map_or}
use Rattle.device_lock.specs.Lists.{same}
use Rattle.device_lock.specs.Numbers.{items_of}
use Rattle.handle_table.specs.Name.{kind_of}
use Rattle.driver_model.specs.Answers.{Reply}
use Rattle.driver_model.specs.Creates.{live_devices, live_objects, live_queues}
use Rattle.driver_model.specs.Histories.{IsStateOf, Leads}
use Rattle.driver_model.specs.Parts.{given_by, is_out_of_handles}
use Rattle.driver_model.specs.Passes.{caller_of}
use Rattle.driver_model.specs.States.{State}
use Rattle.driver_model.specs.Steps.{Step}
use Rattle.driver_model.specs.declared.calls.Call.{Call}
use Rattle.driver_model.specs.declared.calls.Call.TheVariants as call
use Rattle.driver_model.specs.declared.items.Item.{Item}
use Rattle.driver_model.specs.declared.numbers.TheConstants.{DEVICE, MANY_NAMES, MAX_DEVICES, MAX_OBJECTS, MAX_QUEUES, PRESENTATION_QUEUE}

-- some live object has the name
abbrev pub is_live_name : State → ℕ → Bool
is_live_name s name = list_any (λ object. object.is_live && object.name == name) s.objects

-- how many names these items gave
abbrev pub given_in : List Item → ℕ
given_in items = length (filter_map given_by items)

-- how many of the objects that they made are live
abbrev pub live_made : State → List Item → ℕ
live_made s items = count_by (is_live_name s) (filter_map given_by items)

-- the item gives the name of an object of this kind
abbrev pub makes_kind : ℕ → Item → Bool
makes_kind kind item = option_map_or (λ name. kind_of name == kind) (given_by item) false

abbrev pub devices_in : List Item → ℕ
devices_in items = count_by (makes_kind DEVICE) items

abbrev pub queues_in : List Item → ℕ
queues_in items = count_by (makes_kind PRESENTATION_QUEUE) items

-- Each item that gives a name is one of these callers'.
abbrev pub AreMadeBy : List (List ℕ) → List Item → Type 0
AreMadeBy callers items =
    AllByRecursion (λ item. is_some (given_by item) ≡ true → list_any (λ caller. same caller (caller_of item)) callers ≡ true) items

-- what each caller has of its own items, added up
abbrev pub added_up : (List Item → ℕ) → List (List ℕ) → List Item → ℕ
added_up count callers history = sum_by (λ caller. count (items_of caller_of caller history)) callers

-- So many objects live, and so many names were given, at most as all callers' items say together.
pub record AreAddedUp (callers : List (List ℕ)) (history : List Item) (s : State) : Type 0 where
  pub objects : live_objects s ≤ added_up (live_made s) callers history
  pub names : length s.objects ≤ added_up given_in callers history
  pub devices : live_devices s ≤ added_up devices_in callers history
  pub queues : live_queues s ≤ added_up queues_in callers history

abbrev pub CallersAddUp : Type 0
CallersAddUp =
    (callers : List (List ℕ)) (history : List Item) (s : State) → IsStateOf history s → AreMadeBy callers history → AreAddedUp callers history s

-- What a caller has made never comes to live again: while the history goes on, no more of it lives.
abbrev pub LiveObjectsOnlyDie : Type 0
LiveObjectsOnlyDie =
    (front later : List Item) (s t : State) (caller : List ℕ)
    → IsStateOf front s
    → Leads s later t
    → live_made t (items_of caller_of caller front) ≤ live_made s (items_of caller_of caller front)

-- A create finds a place where there are fewer objects than the limits, and fewer names were given than there are.
abbrev pub CreatesFindRoom : Type 0
CreatesFindRoom =
    (old new : State) (caller : List ℕ) (asked : Call) (reply : Reply)
    → Step old caller asked reply new
    → live_objects old < MAX_OBJECTS
    → (asked ≡ call.DeviceCreate → live_devices old < MAX_DEVICES)
    → live_queues old < MAX_QUEUES
    → length old.objects < MANY_NAMES
    → is_out_of_handles reply ≡ false

-- What a stream's caller makes at most: 63 objects live at a time, of which it made one device and one queue; and four objects a picture
-- of 7,000,000 pictures, and six more.
pub record MakesLittle (history : List Item) (s : State) (caller : List ℕ) : Type 0 where
  pub live : live_made s (items_of caller_of caller history) ≤ 63
  pub given : given_in (items_of caller_of caller history) ≤ 28000006
  pub devices : devices_in (items_of caller_of caller history) ≤ 1
  pub queues : queues_in (items_of caller_of caller history) ≤ 1

-- Where sixteen such callers have made all, no create finds the table full: a device only by one of them that has none yet.
abbrev pub SixteenCallersFindRoom : Type 0
SixteenCallersFindRoom =
    (callers : List (List ℕ)) (history : List Item) (s new : State) (caller : List ℕ) (asked : Call) (reply : Reply)
    → IsStateOf history s
    → length callers ≤ 16
    → AreMadeBy callers history
    → AllByRecursion (MakesLittle history s) callers
    → (asked ≡ call.DeviceCreate
    → (list_any (λ other. same other caller) callers ≡ true) × (devices_in (items_of caller_of caller history) ≡ 0))
    → Step s caller asked reply new
    → is_out_of_handles reply ≡ false
