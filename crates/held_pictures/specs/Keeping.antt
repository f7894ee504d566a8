-- How what is held stays: while others call, and behind each own call that doesn't touch it.
use Rattle.std.specs.Prelude.{◌≡◌, ◌≢◌, ℕ, Bool, true, false, List, Some, ⊤}
use Rattle.clock_script.specs.declared.script.ScriptLine.{ScriptLine}
use Rattle.device_lock.specs.declared.view.View.{View}
use Rattle.driver_model.specs.Histories.{Happens, IsStateOf, Leads}
use Rattle.driver_model.specs.States.{State}
use Rattle.driver_model.specs.declared.calls.Call.{Call}
use Rattle.driver_model.specs.declared.calls.Call.TheVariants as call
use Rattle.driver_model.specs.declared.items.Item.{Item}
use Rattle.driver_model.specs.declared.items.Item.TheVariants.{Called, Ended}
use Rattle.driver_model.specs.Passes.{is_of_job}
use Rattle.stream_calls.specs.Counted.{device_of}
use Rattle.stream_calls.specs.Gained.{Gains}
use Rattle.stream_calls.specs.OneDevice.{is_left_out}
use Rattle.stream_calls.specs.OthersLeave.{OthersGoOn}
use Rattle.stream_calls.specs.Strangers.{has_strangers}
use Rattle.cb_types.specs.declared.size.SizeMbs.{SizeMbs}
use Rattle.held_pictures.specs.Held.{Always, HasDevice, Held, Holds, IsIdle, Output, Pixels}

-- ---- others' items

-- The items of others keep the device, where no strangers call on it,
abbrev pub OthersKeepDevices : Type 0
OthersKeepDevices =
    (front others : List Item) (caller : List ℕ) (device place : ℕ) (may_preempt : Bool) (s t : State)
    → IsStateOf front s
    → Leads s others t
    → OthersGoOn front others caller device may_preempt
    → HasDevice s device place
    → HasDevice t device place

-- and all that is held there;
abbrev pub OthersKeepHeld : Type 0
OthersKeepHeld =
    (front others : List Item) (caller : List ℕ) (device place : ℕ) (may_preempt : Bool) (s t : State)
    (name : ℕ) (held : Held)
    → IsStateOf front s
    → Leads s others t
    → OthersGoOn front others caller device may_preempt
    → HasDevice s device place
    → Holds s place name held
    → Holds t place name held

-- and output surfaces that are idle stay so.
abbrev pub OthersKeepIdle : Type 0
OthersKeepIdle =
    (front others : List Item) (caller : List ℕ) (device place : ℕ) (may_preempt : Bool) (s t : State)
    (name : ℕ) (size : SizeMbs)
    → IsStateOf front s
    → Leads s others t
    → OthersGoOn front others caller device may_preempt
    → HasDevice s device place
    → Holds s place name (Output size)
    → IsIdle s name
    → IsIdle t name

-- ---- one own item

-- The call destroys no object of this name, nor gives it other samples or pixels.
abbrev pub LeavesName : ℕ → Call → Type 0
LeavesName name (call.VideoDestroy other) = name ≢ other
LeavesName name (call.OutputDestroy other) = name ≢ other
LeavesName name (call.DecoderDestroy other) = name ≢ other
LeavesName name (call.MixerDestroy other) = name ≢ other
LeavesName name (call.Render decoder target info bytes) = name ≢ target
LeavesName name (call.Mix mixer structure video output) = name ≢ output
LeavesName name _ = ⊤

-- The item is the end of a job, or a call that was refused, or one that streams make and that leaves the name.
abbrev pub ItemLeavesName : ℕ → Item → Type 0
ItemLeavesName name (Called entry) =
    is_of_job entry.reply ≡ true → (is_left_out entry.call ≡ false) × LeavesName name entry.call
ItemLeavesName name (Ended mark) = ⊤

-- it is held as something else than pixels
abbrev pub IsSteady : Held → Type 0
IsSteady (Pixels size picture) = ⊥
IsSteady _ = ⊤

-- Such an item keeps what the name is held as, but for pixels.
abbrev pub OwnItemsKeepHeld : Type 0
OwnItemsKeepHeld =
    (history : List Item) (device name : ℕ) (held : Held) (s t : State) (item : Item)
    → IsSteady held
    → IsStateOf history s
    → Happens s item t
    → ItemLeavesName name item
    → Holds s device name held
    → Holds t device name held

-- The item is the end of a job, or a call that was refused.
abbrev pub ItemChangesNothing : Item → Type 0
ItemChangesNothing (Called entry) = is_of_job entry.reply ≡ false
ItemChangesNothing (Ended mark) = ⊤

-- Such an item keeps all that is held.
abbrev pub EmptyItemsKeepHeld : Type 0
EmptyItemsKeepHeld =
    (device name : ℕ) (held : Held) (s t : State) (item : Item)
    → Happens s item t
    → ItemChangesNothing item
    → Holds s device name held
    → Holds t device name held

-- Any item keeps the device's place.
abbrev pub ItemsKeepDevices : Type 0
ItemsKeepDevices =
    (history : List Item) (device place : ℕ) (s t : State) (item : Item)
    → IsStateOf history s
    → Happens s item t
    → HasDevice s device place
    → HasDevice t device place

-- ---- a call: what others did before it, and its own item

-- The pass gains the item, no strangers having called on its device, which stood at this place when the pass last called.
pub record GainsAlone (before : View Item) (item : Item) (after : View Item) (s t : State) (device place : ℕ) : Type 0 where
  pub gains : Gains before item after s t
  pub may_preempt : Bool
  pub go : OthersGoOn before.seen gains.adds.between before.number device may_preempt
  pub root : Always before.seen (λ u. HasDevice u device place)

-- So it is where strangers haven't called on the device that the caller made.
abbrev pub CallsGainAlone : Type 0
CallsGainAlone =
    (before after : View Item) (item : Item) (s t : State) (script : List ScriptLine) (stream device place : ℕ)
    → Gains before item after s t
    → device_of before.own ≡ Some device
    → has_strangers after.seen after.own after.number script stream ≡ false
    → Always before.seen (λ u. HasDevice u device place)
    → GainsAlone before item after s t device place

-- Then all is there when the item happens,
abbrev pub CallsFindDevices : Type 0
CallsFindDevices =
    (before after : View Item) (item : Item) (s t : State) (device place : ℕ)
    → GainsAlone before item after s t device place
    → HasDevice s device place

abbrev pub CallsFindHeld : Type 0
CallsFindHeld =
    (before after : View Item) (item : Item) (s t : State) (device place name : ℕ) (held : Held)
    → GainsAlone before item after s t device place
    → Always before.seen (λ u. Holds u place name held)
    → Holds s place name held

abbrev pub CallsFindIdle : Type 0
CallsFindIdle =
    (before after : View Item) (item : Item) (s t : State) (device place name : ℕ) (size : SizeMbs)
    → GainsAlone before item after s t device place
    → Always before.seen (λ u. Holds u place name (Output size))
    → Always before.seen (λ u. IsIdle u name)
    → IsIdle s name

-- and stays behind it, where the item leaves it.
abbrev pub CallsKeepDevices : Type 0
CallsKeepDevices =
    (before after : View Item) (item : Item) (s t : State) (device place : ℕ)
    → GainsAlone before item after s t device place
    → Always after.seen (λ u. HasDevice u device place)

abbrev pub CallsKeepHeld : Type 0
CallsKeepHeld =
    (before after : View Item) (item : Item) (s t : State) (device place name : ℕ) (held : Held)
    → IsSteady held
    → GainsAlone before item after s t device place
    → ItemLeavesName name item
    → Always before.seen (λ u. Holds u place name held)
    → Always after.seen (λ u. Holds u place name held)

abbrev pub EmptyCallsKeepHeld : Type 0
EmptyCallsKeepHeld =
    (before after : View Item) (item : Item) (s t : State) (device place name : ℕ) (held : Held)
    → GainsAlone before item after s t device place
    → ItemChangesNothing item
    → Always before.seen (λ u. Holds u place name held)
    → Always after.seen (λ u. Holds u place name held)
