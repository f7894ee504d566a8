-- The trace of a history: the records of its calls about presentation that were not refused.
use Rattle.std.specs.Prelude.{ℕ, ◌+◌, List, [], ◌∷◌, ◌++◌, length, map, Ok, Err}
use Rattle.driver_model.specs.Answers.{Reply}
use Rattle.driver_model.specs.declared.calls.Call.{Call}
use Rattle.driver_model.specs.declared.calls.Call.TheVariants as call
use Rattle.driver_model.specs.declared.items.Item.{Item}
use Rattle.driver_model.specs.declared.items.Item.TheVariants.{Called, Ended}
use Rattle.driver_model.specs.declared.replies.Answer.{Answer}
use Rattle.driver_model.specs.declared.replies.Answer.TheVariants.{Done, Flips, Name, Status, Time}
use Rattle.driver_model.specs.declared.replies.Flipped.{Flipped}
use Rattle.trace_records.specs.declared.record.Event.{Event}
use Rattle.trace_records.specs.declared.record.Event.TheVariants as event
use Rattle.trace_records.specs.declared.record.Record.{Record}

-- the event of a flip that a tick's answer tells of
abbrev pub flip_event : Flipped → Event
flip_event flip = event.Flip flip.queue flip.surface flip.time

-- The events of a call with its answer: one, and behind an `Advance` each of its flips. A call that isn't about presentation has none.
abbrev pub events_of : Call → Answer → List Event
events_of call.DeviceCreate (Name name) = event.DeviceCreate name ∷ []
events_of (call.DeviceDestroy device) Done = event.DeviceDestroy device ∷ []
events_of (call.OutputCreate device format width height) (Name name) = event.OutputCreate name device ∷ []
events_of (call.OutputDestroy surface) Done = event.OutputDestroy surface ∷ []
events_of (call.QueueCreate device window) (Name name) = event.QueueCreate name device window ∷ []
events_of (call.QueueDestroy queue) Done = event.QueueDestroy queue ∷ []
events_of (call.QueueDisplay queue surface earliest) Done = event.QueueDisplay queue surface earliest ∷ []
events_of (call.QueryStatus queue surface) (Status shown) = event.QueryStatus queue surface shown.status shown.first_time ∷ []
events_of (call.BlockUntilIdle queue surface) (Time time) = event.BlockUntilIdle queue surface time ∷ []
events_of (call.GetTime queue) (Time time) = event.GetTime queue time ∷ []
events_of (call.Promise queue time) Done = event.Promise queue time ∷ []
events_of (call.Advance device time) (Flips flips) = event.Advance device (length flips) time ∷ map flip_event flips
events_of (call.Preempt device) Done = event.Preempt device ∷ []
events_of _ _ = []

abbrev pub record_at : ℕ → Event → Record
record_at place event = record { place = place; event = event }

-- what a call is recorded as, by its place and its reply: a refused one not at all
abbrev pub records_of : ℕ → Call → Reply → List Record
records_of place call (Ok answer) = map (record_at place) (events_of call answer)
records_of place call (Err refusal) = []

-- the records of items whose places begin with this one; an item that ends a job has none
unfoldable pub trace_from : ℕ → List Item → List Record
trace_from place [] = []
trace_from place (Called entry ∷ later) = records_of place entry.call entry.reply ++ trace_from (place + 1) later
trace_from place (Ended mark ∷ later) = trace_from (place + 1) later

-- the trace of a whole history
abbrev pub trace : List Item → List Record
trace history = trace_from 0 history
