use Rattle.std.proofs.Common.{◌-◌, ◌≤◌, false, length}
use Rattle.file_rows.specs.Courses.{StandsAt}
use Rattle.file_rows.proofs.turns.course_turns.Given as goal

abbrev pub invariant-loop-from : goal.invariant-loop-from
invariant-loop-from l = StandsAt l.course l.from false × (l.from ≤ length l.bytes)

abbrev pub decreases-loop-from : goal.decreases-loop-from
decreases-loop-from l = length l.bytes - l.from
