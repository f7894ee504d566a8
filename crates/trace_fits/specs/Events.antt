-- What events do to a driver that keeps devices, output surfaces and queues alone: neither sizes nor samples, and no jobs. Its state is
-- a driver's, with no notes. Where a driver can refuse for the number of all live objects, this one can't: it doesn't see them all.
use Rattle.std.specs.Prelude.{◌≡◌, ℕ, ◌==◌, length, Ok}
use Rattle.driver_model.specs.Answers.{Goes}
use Rattle.driver_model.specs.Clock.{DeviceDestroy, Preempt, no_output}
use Rattle.driver_model.specs.Creates.{Makes, handles_full, live_devices, live_queues, new_device, new_queue}
use Rattle.driver_model.specs.Objects.{Content, OutputObject, as_device}
use Rattle.driver_model.specs.Queues.{BlockUntilIdle, GetTime, Promise, QueryStatus, QueueDestroy, QueueDisplay}
use Rattle.driver_model.specs.Refusals.{Looked, ◌>>=◌, ◌>>◌, first_handle, refused_if}
use Rattle.driver_model.specs.States.{State, named}
use Rattle.driver_model.specs.Surfaces.{OutputDestroy}
use Rattle.driver_model.specs.declared.numbers.TheConstants.{MAX_DEVICES, MAX_QUEUES}
use Rattle.driver_model.specs.declared.replies.Answer.TheVariants.{Done, Name, Status, Time}
use Rattle.trace_records.specs.declared.record.Event.{Event}
use Rattle.trace_records.specs.declared.record.Event.TheVariants as event

-- ---- what each create looks at: the place of the device that the new object will belong to

-- a device belongs to itself, and there is room for one more
abbrev pub device_create : State → Looked ℕ
device_create s = do
  refused_if (live_devices s == MAX_DEVICES) (handles_full s)
  Ok (length s.objects)

abbrev pub output_create : State → ℕ → Looked ℕ
output_create s device = do
  on ← first_handle s (named s as_device device)
  Ok on.place

-- there is room for one more queue
abbrev pub queue_create : State → ℕ → Looked ℕ
queue_create s device = do
  on ← first_handle s (named s as_device device)
  refused_if (live_queues s == MAX_QUEUES) (handles_full s)
  Ok on.place

-- an output surface of which neither the size nor a byte is kept
abbrev pub new_output : Content
new_output = OutputObject no_output

module _ (old new : State) where
  -- A live object with this name and this content is added, on the device that was looked up.
  abbrev pub Adds : ℕ → Content → Looked ℕ → Type 0
  Adds name content looked = Goes old (Ok (Name name)) new looked (λ device. Makes old (Ok (Name name)) new device (λ made. made ≡ content))

  -- The event's call, which isn't refused, with the answer that the event tells of. Of a tick and its flips `Walks` has the rule.
  abbrev pub Does : Event → Type 0
  Does (event.DeviceCreate name) = Adds name new_device (device_create old)
  Does (event.DeviceDestroy device) = DeviceDestroy old (Ok Done) new device
  Does (event.OutputCreate name device) = Adds name new_output (output_create old device)
  Does (event.OutputDestroy surface) = OutputDestroy old (Ok Done) new surface
  Does (event.QueueCreate name device window) = Adds name (new_queue window) (queue_create old device)
  Does (event.QueueDestroy queue) = QueueDestroy old (Ok Done) new queue
  Does (event.QueueDisplay queue surface earliest) = QueueDisplay old (Ok Done) new queue surface earliest
  Does (event.QueryStatus queue surface status time) = QueryStatus old (Ok (Status (record { status = status; first_time = time }))) new queue surface
  Does (event.BlockUntilIdle queue surface time) = BlockUntilIdle old (Ok (Time time)) new queue surface
  Does (event.GetTime queue time) = GetTime old (Ok (Time time)) new queue
  Does (event.Promise queue time) = Promise old (Ok Done) new queue time
  Does (event.Advance device flips time) = ⊥
  Does (event.Flip queue surface time) = ⊥
  Does (event.Preempt device) = Preempt old (Ok Done) new device
