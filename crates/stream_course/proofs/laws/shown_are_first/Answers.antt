use Rattle.stream_course.proofs.First.{shown_are_first}
use Rattle.stream_course.proofs.laws.shown_are_first.Goals as goal

pub returns : goal.returns
returns c = shown_are_first
