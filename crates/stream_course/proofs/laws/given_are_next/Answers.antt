use Rattle.stream_course.proofs.Turns.{given_are_next}
use Rattle.stream_course.proofs.laws.given_are_next.Goals as goal

pub returns : goal.returns
returns c = given_are_next
