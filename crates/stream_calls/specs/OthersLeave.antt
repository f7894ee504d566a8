-- What the items of others leave of the objects of a caller's device, while no strangers call there.
use Rattle.std.specs.Prelude.{◌≡◌, ℕ, Bool, true, false, List, [], ◌∷◌, ◌++◌, slice_get, Option, Some}
use Rattle.std.specs.List.{list_any}
use Rattle.clock_script.specs.declared.script.ScriptLine.{ScriptLine}
use Rattle.device_lock.specs.Numbers.{items_of}
use Rattle.handle_table.specs.Name.{kind_of}
use Rattle.present_queue.specs.Queue.{Queue, Queued}
use Rattle.driver_model.specs.Histories.{IsStateOf, Leads}
use Rattle.driver_model.specs.Objects.{Content, Decoder, Device, DeviceObject, LastFlip, Object, OutputObject, OutputSurface, PresentationQueue, QueueObject, VideoMixer, VideoSurface, as_decoder, as_device, as_mixer, as_output, as_queue, as_video}
use Rattle.driver_model.specs.Parts.{is_among, names_of}
use Rattle.driver_model.specs.Passes.{caller_of}
use Rattle.driver_model.specs.Presented.{is_idle_at}
use Rattle.driver_model.specs.States.{Found, State, is_out, named}
use Rattle.driver_model.specs.declared.items.Item.{Item}
use Rattle.driver_model.specs.declared.numbers.TheConstants.{DEVICE}
use Rattle.stream_calls.specs.Counted.{device_of}
use Rattle.stream_calls.specs.Strangers.{has_strangers, is_preempted_by, is_strangers}

-- The history goes on with items of others alone, and no stranger's call on this device is among them.
pub record OthersGoOn (front others : List Item) (caller : List ℕ) (device : ℕ) (may_preempt : Bool) : Type 0 where
  pub kind : kind_of device ≡ DEVICE
  pub none_own : items_of caller_of caller others ≡ []
  pub no_strangers : list_any (is_strangers caller may_preempt (names_of (front ++ others) device)) others ≡ false

-- ---- what is left

-- what a queue shows when it has shown these entries, the oldest first
unfoldable pub shown_last : List (Queued ℕ) → Option ℕ → Option ℕ
shown_last [] visible = visible
shown_last (entry ∷ later) visible = shown_last later (Some entry.surface)

-- The queue has shown some of its oldest entries, or none, and has the others.
pub record IsQueueLeft (old new : Queue ℕ) : Type 0 where
  pub shown : List (Queued ℕ)
  pub entries : old.entries ≡ shown ++ new.entries
  pub visible : new.visible ≡ shown_last shown old.visible
  pub promise : new.promise ≡ old.promise

-- A device's clock may go on, and the device be preempted where it may be; an output surface may have a later flip; and a
-- queue may have shown entries. All else stays.
abbrev pub IsContentLeft : (may_preempt : Bool) → (old new : Content) → Type 0
IsContentLeft may_preempt (DeviceObject old) new =
    (now : Device) × (new ≡ DeviceObject now) × (may_preempt ≡ false → now.is_preempted ≡ old.is_preempted)
IsContentLeft may_preempt (OutputObject old) new =
    (flip : Option LastFlip) × (new ≡ OutputObject (record old { last_flip = flip }))
IsContentLeft may_preempt (QueueObject old) new =
    (now : Queue ℕ) × (new ≡ QueueObject (record old { queue = now })) × IsQueueLeft old.queue now
IsContentLeft may_preempt old new = new ≡ old

pub record IsLeft (may_preempt : Bool) (old new : Object) : Type 0 where
  pub name : new.name ≡ old.name
  pub device : new.device ≡ old.device
  pub is_live : new.is_live ≡ old.is_live
  pub content : IsContentLeft may_preempt old.content new.content

-- What the name finds is left.
pub record IsFoundLeft (may_preempt : Bool) (s t : State) (name : ℕ) : Type 0 where
  pub video : (on : Found VideoSurface) → named s as_video name ≡ Some on → named t as_video name ≡ Some on
  pub decoder : (on : Found Decoder) → named s as_decoder name ≡ Some on → named t as_decoder name ≡ Some on
  pub mixer : (on : Found VideoMixer) → named s as_mixer name ≡ Some on → named t as_mixer name ≡ Some on
  pub output : (on : Found OutputSurface)
      → named s as_output name ≡ Some on
      → (flip : Option LastFlip) × (named t as_output name ≡ Some (record on { value = record on.value { last_flip = flip } }))
  pub queue : (on : Found PresentationQueue)
      → named s as_queue name ≡ Some on
      → (now : Queue ℕ)
      × (named t as_queue name ≡ Some (record on { value = record on.value { queue = now } }))
      × IsQueueLeft on.value.queue now
  pub device : (on : Found Device)
      → named s as_device name ≡ Some on
      → (now : Device)
      × (named t as_device name ≡ Some (record on { value = now }))
      × (may_preempt ≡ false → now.is_preempted ≡ on.value.is_preempted)

-- ---- laws

-- So it is with the items of others in a history of a caller that has a device, where no strangers called.
abbrev pub NoStrangersGoOn : Type 0
NoStrangersGoOn =
    (front others more : List Item) (caller : List ℕ) (script : List ScriptLine) (stream device : ℕ)
    → kind_of device ≡ DEVICE
    → items_of caller_of caller others ≡ []
    → device_of (items_of caller_of caller (front ++ (others ++ more))) ≡ Some device
    → has_strangers (front ++ (others ++ more)) (items_of caller_of caller (front ++ (others ++ more))) caller script stream ≡ false
    → OthersGoOn front others caller device (is_preempted_by script stream)

-- Others make nothing on the device.
abbrev pub OthersAddNoNames : Type 0
OthersAddNoNames =
    (front others : List Item) (caller : List ℕ) (device : ℕ) (may_preempt : Bool) (s t : State)
    → IsStateOf front s
    → Leads s others t
    → OthersGoOn front others caller device may_preempt
    → names_of (front ++ others) device ≡ names_of front device

-- Each object of the device is left.
abbrev pub OthersLeaveObjects : Type 0
OthersLeaveObjects =
    (front others : List Item) (caller : List ℕ) (device : ℕ) (may_preempt : Bool) (s t : State)
    (place : ℕ) (object : Object)
    → IsStateOf front s
    → Leads s others t
    → OthersGoOn front others caller device may_preempt
    → slice_get s.objects place ≡ Some object
    → is_among (names_of front device) object.name ≡ true
    → (now : Object) × (slice_get t.objects place ≡ Some now) × IsLeft may_preempt object now

-- An object of the device that no queue shows or has an entry of stays so.
abbrev pub OthersLeaveIdle : Type 0
OthersLeaveIdle =
    (front others : List Item) (caller : List ℕ) (device : ℕ) (may_preempt : Bool) (s t : State)
    (place : ℕ) (object : Object)
    → IsStateOf front s
    → Leads s others t
    → OthersGoOn front others caller device may_preempt
    → slice_get s.objects place ≡ Some object
    → is_among (names_of front device) object.name ≡ true
    → is_idle_at s place ≡ true
    → is_idle_at t place ≡ true

-- An object of the device that no job writes stays so.
abbrev pub OthersLeaveHome : Type 0
OthersLeaveHome =
    (front others : List Item) (caller : List ℕ) (device : ℕ) (may_preempt : Bool) (s t : State)
    (place : ℕ) (object : Object)
    → IsStateOf front s
    → Leads s others t
    → OthersGoOn front others caller device may_preempt
    → slice_get s.objects place ≡ Some object
    → is_among (names_of front device) object.name ≡ true
    → is_out s place ≡ false
    → is_out t place ≡ false

-- So is what each name of the device finds.
abbrev pub OthersLeaveNames : Type 0
OthersLeaveNames =
    (front others : List Item) (caller : List ℕ) (device : ℕ) (may_preempt : Bool) (s t : State) (name : ℕ)
    → IsStateOf front s
    → Leads s others t
    → OthersGoOn front others caller device may_preempt
    → is_among (names_of front device) name ≡ true
    → IsFoundLeft may_preempt s t name
