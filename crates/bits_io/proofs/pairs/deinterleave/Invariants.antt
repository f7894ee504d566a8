use Rattle.std.proofs.Common.{◌≡◌, ◌*◌, take}
use Rattle.bits_io.specs.ByteOrder.{interleaved}
use Rattle.bits_io.proofs.pairs.deinterleave.Given as goal

abbrev pub invariant-loop-i : goal.invariant-loop-i
invariant-loop-i l = interleaved (take l.i l.first) (take l.i l.second) ≡ take (2 * l.i) l.pairs
