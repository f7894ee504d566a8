use Rattle.std.proofs.Common.{length, ◌-◌, ◌≤◌}
use Rattle.bit_io.proofs.Allowed.{IsClearWithin}
use Rattle.bit_io.proofs.emulation.next_suspect.Given as goal

-- no suspect byte stands from the start up to here
abbrev pub invariant-loop-i : goal.invariant-loop-i
invariant-loop-i l = (2 ≤ l.i) × (l.start ≤ l.i) × IsClearWithin l.unit l.start l.i

abbrev pub decreases-loop-i : goal.decreases-loop-i
decreases-loop-i l = length l.unit - l.i
