use Rattle.std.proofs.Common.{◌≡◌, ◌≤◌, length, take}
use Rattle.bit_io.specs.Bits.{bits_of}
use Rattle.bit_io.specs.Places.{through_last_one}
use Rattle.bit_io.proofs.reader.last_one.Given as goal

-- from the end on all bytes are zeros
abbrev pub invariant-loop-end : goal.invariant-loop-end
invariant-loop-end l = (l.end ≤ length l.bytes) × (through_last_one (bits_of l.bytes) ≡ through_last_one (bits_of (take l.end l.bytes)))

abbrev pub decreases-loop-end : goal.decreases-loop-end
decreases-loop-end l = l.end
