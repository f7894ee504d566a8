-- What a call through a recorder promises.
use Rattle.std.specs.Prelude.{◌≡◌, List, ◌++◌, flat_map}
use Rattle.driver.specs.Made.{IfRefused, Makes}
use Rattle.driver.specs.declared.driver.Pass.{Pass}
use Rattle.driver_model.specs.Answers.{reply_with}
use Rattle.driver_model.specs.declared.calls.Call.{Call}
use Rattle.driver_model.specs.declared.replies.Answer.{Answer}
use Rattle.trace_records.specs.Traces.{records_of}
use Rattle.trace_records.specs.declared.record.Record.{Record}
use Rattle.call_trace.specs.declared.recorder.Recorded.{Recorded}
use Rattle.call_trace.specs.declared.recorder.Recorded.TheVariants.{Made, NoRoom}
use Rattle.call_trace.specs.declared.recorder.Recorder.{Recorder}

-- what it has recorded, in order
abbrev pub kept : Recorder → List Record
kept recorder = recorder.records.items

-- what all have, one recorder after the other
abbrev pub all_kept : List Recorder → List Record
all_kept recorders = flat_map kept recorders

-- The driver's call is made, and its records are behind those of the calls before it: none where it was refused. Or there was no room,
-- and then no call was made, nothing was recorded, and the pass comes back.
abbrev pub Records : {A : Type 0} → Recorder → Pass → Call → (A → Answer) → Recorder → Recorded A → Type 0
Records old before call answer new (Made answered) =
    Makes before call answer answered × (kept new ≡ kept old ++ records_of answered.place call (reply_with answer answered.result))
Records old before call answer new (NoRoom pass) = (pass ≡ before) × (kept new ≡ kept old)

-- what holds where the call wasn't made or was refused
abbrev pub IfNotMade : {A : Type 0} → Recorded A → Type 0 → Type 0
IfNotMade (Made answered) P = IfRefused answered.result P
IfNotMade (NoRoom pass) P = P
