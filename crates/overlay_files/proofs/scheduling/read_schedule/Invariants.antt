use Rattle.std.proofs.Common.{length, ◌-◌}
use Rattle.overlay_files.proofs.ReadLines.{CuesUpTo}
use Rattle.overlay_files.proofs.scheduling.read_schedule.Given as goal

abbrev pub decreases-loop-at : goal.decreases-loop-at
decreases-loop-at l = length l.bytes - l.at

abbrev pub invariant-loop-at : goal.invariant-loop-at
invariant-loop-at l = CuesUpTo l.bytes l.at l.schedule
