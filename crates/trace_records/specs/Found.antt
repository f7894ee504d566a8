-- What words are read as, before they are compared with those of what was found. No public clause cites this.
use Rattle.std.specs.Prelude.{ℕ, ◌==◌, ◌%◌, ◌^◌, if◌then◌else◌, Option, Some, None}
use Rattle.std.specs.Option.{option_map}
use Rattle.driver_model.specs.declared.replies.PresentStatus.{PresentStatus}
use Rattle.driver_model.specs.declared.replies.PresentStatus.TheVariants.{Idle, Queued, Visible}
use Rattle.trace_records.specs.declared.record.Event.{Event}
use Rattle.trace_records.specs.declared.record.Event.TheVariants.{Advance, BlockUntilIdle, DeviceCreate, DeviceDestroy, Flip, GetTime, OutputCreate, OutputDestroy, Preempt, Promise, QueryStatus, QueueCreate, QueueDestroy, QueueDisplay}
use Rattle.trace_records.specs.declared.words.Words.{Words}

-- a word's lower half
abbrev pub low : ℕ → ℕ
low word = word % 2 ^ 32

abbrev pub status_in : ℕ → Option PresentStatus
status_in word = if word == 0 then Some Idle else if word == 1 then Some Queued else if word == 2 then Some Visible else None

abbrev pub event_in : Words → Option Event
event_in w =
    if w.call == 1 then Some (DeviceCreate (low w.a))
    else if w.call == 2 then Some (DeviceDestroy (low w.a))
    else if w.call == 3 then Some (OutputCreate (low w.a) (low w.b))
    else if w.call == 4 then Some (OutputDestroy (low w.a))
    else if w.call == 5 then Some (QueueCreate (low w.a) (low w.b) (low w.c))
    else if w.call == 6 then Some (QueueDestroy (low w.a))
    else if w.call == 7 then Some (QueueDisplay (low w.a) (low w.b) w.c)
    else if w.call == 8 then option_map (λ status. QueryStatus (low w.a) (low w.b) status w.d) (status_in w.c)
    else if w.call == 9 then Some (BlockUntilIdle (low w.a) (low w.b) w.d)
    else if w.call == 10 then Some (GetTime (low w.a) w.d)
    else if w.call == 11 then Some (Promise (low w.a) w.d)
    else if w.call == 12 then Some (Advance (low w.a) w.c w.d)
    else if w.call == 13 then Some (Flip (low w.a) (low w.b) w.d)
    else if w.call == 14 then Some (Preempt (low w.a))
    else None
