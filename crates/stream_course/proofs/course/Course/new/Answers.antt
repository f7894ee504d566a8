use Rattle.std.proofs.Common.{refl}
use Rattle.stream_course.proofs.Turns.{begins}
use Rattle.stream_course.proofs.course.Course.new.Goals as goal

pub returns : goal.returns
returns c = begins _ _ c.requires.0 c.requires.1 c.new.ensures refl refl refl c.new-2.ensures (c.new-3.ensures) refl refl
