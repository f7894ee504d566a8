use Rattle.std.proofs.Common.{◌≡◌, ◌-◌, ◌≤◌, length, take}
use Rattle.std.specs.Io.KnownBytes.{Appends}
use Rattle.vdplay.proofs.writing.write_all.Given as goal

-- a front of the bytes is written
abbrev pub invariant-loop-written : goal.invariant-loop-written
invariant-loop-written g l =
    (l.written ≤ length l.bytes)
    × (g.K.Sink.faults l.sink ≡ g.K.Sink.faults l.fn.sink)
    × Appends (g.K.Sink.written l.fn.sink) (g.K.Sink.written l.sink) (take l.written l.bytes)

abbrev pub decreases-loop-written : goal.decreases-loop-written
decreases-loop-written g l = length l.bytes - l.written
