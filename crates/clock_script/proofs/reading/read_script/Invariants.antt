use Rattle.std.proofs.Common.{length, ◌-◌}
use Rattle.clock_script.proofs.ReadUpTo.{ReadUpTo}
use Rattle.clock_script.proofs.reading.read_script.Given as goal

abbrev pub decreases-loop-at : goal.decreases-loop-at
decreases-loop-at l = length l.bytes - l.at

abbrev pub invariant-loop-at : goal.invariant-loop-at
invariant-loop-at l = ReadUpTo l.streams l.bytes l.at l.draft
