-- What an item keeps of a mixer, an output surface or a queue that it doesn't destroy.
use Rattle.std.specs.Prelude.{◌≡◌, ◌≢◌, ℕ, List, Some, ⊤}
use Rattle.present_queue.specs.Queue.{Queue}
use Rattle.driver_model.specs.Histories.{Happens, IsStateOf}
use Rattle.driver_model.specs.Objects.{Device, OutputSurface, PresentationQueue, VideoMixer, as_device, as_mixer, as_output, as_queue}
use Rattle.driver_model.specs.States.{Found, State, named}
use Rattle.driver_model.specs.declared.calls.Call.{Call}
use Rattle.driver_model.specs.declared.calls.Call.TheVariants as call
use Rattle.driver_model.specs.declared.items.Item.{Item}
use Rattle.driver_model.specs.declared.items.Item.TheVariants.{Called, Ended}

-- the call doesn't destroy the device at this place
abbrev pub LeavesDevice : State → (device name : ℕ) → Type 0
LeavesDevice s device name = (on : Found Device) → named s as_device name ≡ Some on → on.place ≢ device

-- The call destroys neither the object of this name, which is a mixer, an output surface or a queue, nor its device; and it doesn't
-- give it another matrix.
abbrev pub LeavesObject : State → (name device : ℕ) → Call → Type 0
LeavesObject s name device (call.DeviceDestroy other) = LeavesDevice s device other
LeavesObject s name device (call.OutputDestroy other) = name ≢ other
LeavesObject s name device (call.MixerDestroy other) = name ≢ other
LeavesObject s name device (call.MixerSetMatrix other matrix) = name ≢ other
LeavesObject s name device (call.QueueDestroy other) = name ≢ other
LeavesObject s name device _ = ⊤

abbrev pub ItemLeavesObject : State → (name device : ℕ) → Item → Type 0
ItemLeavesObject s name device (Called entry) = LeavesObject s name device entry.call
ItemLeavesObject s name device (Ended mark) = ⊤

-- Such an item keeps the mixer.
abbrev pub ItemsKeepMixers : Type 0
ItemsKeepMixers =
    (history : List Item) (name : ℕ) (mixer : Found VideoMixer) (old new : State) (item : Item)
    → IsStateOf history old
    → named old as_mixer name ≡ Some mixer
    → ItemLeavesObject old name mixer.device item
    → Happens old item new
    → named new as_mixer name ≡ Some mixer

-- It keeps the output surface, with its format and its size.
pub record IsSameOutput (old new : OutputSurface) : Type 0 where
  pub format : new.format ≡ old.format
  pub size : new.size ≡ old.size

abbrev pub ItemsKeepOutputs : Type 0
ItemsKeepOutputs =
    (history : List Item) (name : ℕ) (output : Found OutputSurface) (old new : State) (item : Item)
    → IsStateOf history old
    → named old as_output name ≡ Some output
    → ItemLeavesObject old name output.device item
    → Happens old item new
    → (now : OutputSurface) × (named new as_output name ≡ Some (record output { value = now })) × IsSameOutput output.value now

-- And it keeps the queue, with its window.
abbrev pub ItemsKeepQueues : Type 0
ItemsKeepQueues =
    (history : List Item) (name : ℕ) (queue : Found PresentationQueue) (old new : State) (item : Item)
    → IsStateOf history old
    → named old as_queue name ≡ Some queue
    → ItemLeavesObject old name queue.device item
    → Happens old item new
    → (now : Queue ℕ) × (named new as_queue name ≡ Some (record queue { value = record queue.value { queue = now } }))
