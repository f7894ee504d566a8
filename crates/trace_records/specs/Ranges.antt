-- Which numbers a record can have.
use Rattle.std.specs.Prelude.{ℕ, ◌<◌, ◌^◌}
use Rattle.trace_records.specs.declared.record.Event.{Event}
use Rattle.trace_records.specs.declared.record.Event.TheVariants.{Advance, BlockUntilIdle, DeviceCreate, DeviceDestroy, Flip, GetTime, OutputCreate, OutputDestroy, Preempt, Promise, QueryStatus, QueueCreate, QueueDestroy, QueueDisplay}
use Rattle.trace_records.specs.declared.record.Record.{Record}

-- a name, or the number of a window
abbrev pub IsName : ℕ → Type 0
IsName name = name < 2 ^ 32

-- a time, a place or a count
abbrev pub IsWord : ℕ → Type 0
IsWord word = word < 2 ^ 64

-- An event's names and window have 32 bits, its times and its count 64.
abbrev pub IsInRange : Event → Type 0
IsInRange (DeviceCreate name) = IsName name
IsInRange (DeviceDestroy device) = IsName device
IsInRange (OutputCreate name device) = IsName name × IsName device
IsInRange (OutputDestroy surface) = IsName surface
IsInRange (QueueCreate name device window) = IsName name × IsName device × IsName window
IsInRange (QueueDestroy queue) = IsName queue
IsInRange (QueueDisplay queue surface earliest) = IsName queue × IsName surface × IsWord earliest
IsInRange (QueryStatus queue surface status time) = IsName queue × IsName surface × IsWord time
IsInRange (BlockUntilIdle queue surface time) = IsName queue × IsName surface × IsWord time
IsInRange (GetTime queue time) = IsName queue × IsWord time
IsInRange (Promise queue time) = IsName queue × IsWord time
IsInRange (Advance device flips time) = IsName device × IsWord flips × IsWord time
IsInRange (Flip queue surface time) = IsName queue × IsName surface × IsWord time
IsInRange (Preempt device) = IsName device

pub record IsRecord (r : Record) : Type 0 where
  pub place : IsWord r.place
  pub event : IsInRange r.event
