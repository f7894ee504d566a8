use Rattle.file_rows.specs.Courses.{Stays}
use Rattle.file_rows.proofs.turns.tell.Given as goal

abbrev pub invariant-loop-turn : goal.invariant-loop-turn
invariant-loop-turn l = Stays l.fn.course l.course
