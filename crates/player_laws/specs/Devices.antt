-- What calls leave of the objects of devices that they aren't about.
use Rattle.std.specs.Prelude.{◌≡◌, ◌≢◌, ℕ, true, false, List, ◌++◌, slice_get, Some}
use Rattle.std.specs.List.{list_any}
use Rattle.handle_table.specs.Name.{kind_of}
use Rattle.driver_model.specs.Answers.{Reply}
use Rattle.driver_model.specs.Histories.{IsStateOf, Leads}
use Rattle.driver_model.specs.Objects.{Object}
use Rattle.driver_model.specs.Parts.{is_among, is_first, names_of}
use Rattle.driver_model.specs.States.{State}
use Rattle.driver_model.specs.Steps.{Step}
use Rattle.driver_model.specs.declared.calls.Call.{Call}
use Rattle.driver_model.specs.declared.items.Entry.{Entry}
use Rattle.driver_model.specs.declared.items.Item.{Item}
use Rattle.driver_model.specs.declared.items.Item.TheVariants.{Called}
use Rattle.driver_model.specs.declared.numbers.TheConstants.{DEVICE}

-- No object with the call's first name is of the device at this place.
abbrev pub IsElsewhere : State → ℕ → Call → Type 0
IsElsewhere s device call =
    (place : ℕ) (object : Object) → slice_get s.objects place ≡ Some object → is_first object.name call ≡ true → object.device ≢ device

-- A call changes only objects of the device of the object that it names first.
abbrev pub StepsStayOnOneDevice : Type 0
StepsStayOnOneDevice =
    (history : List Item) (old new : State) (caller : List ℕ) (call : Call) (reply : Reply) (place : ℕ) (object : Object)
    → IsStateOf history old
    → Step old caller call reply new
    → slice_get old.objects place ≡ Some object
    → IsElsewhere old object.device call
    → slice_get new.objects place ≡ Some object

-- The entry's first name is none of these.
abbrev pub IsAboutOthers : List ℕ → List Item → Type 0
IsAboutOthers names items =
    (place : ℕ) (entry : Entry) → slice_get items place ≡ Some (Called entry) → list_any (λ name. is_first name entry.call) names ≡ false

-- So while a history goes on with calls that are about other devices, each object of the device stays as it is.
abbrev pub OthersLeaveTheDevice : Type 0
OthersLeaveTheDevice =
    (front later : List Item) (device : ℕ) (s t : State) (place : ℕ) (object : Object)
    → kind_of device ≡ DEVICE
    → IsStateOf front s
    → Leads s later t
    → IsAboutOthers (names_of (front ++ later) device) later
    → slice_get s.objects place ≡ Some object
    → is_among (names_of (front ++ later) device) object.name ≡ true
    → slice_get t.objects place ≡ Some object

-- ---- names and places

-- The device's objects are those with one of its names, which all have one place as their device.
abbrev pub NamesAreOfTheDevice : Type 0
NamesAreOfTheDevice =
    (history : List Item) (device : ℕ) (s : State) (place other : ℕ) (a b : Object)
    → kind_of device ≡ DEVICE
    → IsStateOf history s
    → slice_get s.objects place ≡ Some a
    → slice_get s.objects other ≡ Some b
    → is_among (names_of history device) a.name ≡ true
    → is_among (names_of history device) b.name ≡ true
    → a.device ≡ b.device

-- An object keeps its place, its name, its device and its kind, and one that was destroyed stays so.
pub record IsStill (old new : Object) : Type 0 where
  pub name : new.name ≡ old.name
  pub device : new.device ≡ old.device
  pub dead : old.is_live ≡ false → new.is_live ≡ false

abbrev pub ObjectsStay : Type 0
ObjectsStay =
    (history later : List Item) (s t : State) (place : ℕ) (object : Object)
    → IsStateOf history s
    → Leads s later t
    → slice_get s.objects place ≡ Some object
    → (now : Object) × (slice_get t.objects place ≡ Some now) × IsStill object now
