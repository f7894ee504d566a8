use Rattle.stream_course.proofs.First.{decoded_are_first}
use Rattle.stream_course.proofs.laws.decoded_are_first.Goals as goal

pub returns : goal.returns
returns c = decoded_are_first
