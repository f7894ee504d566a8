use Rattle.stream_course.proofs.Turns.{ways_are_small}
use Rattle.stream_course.proofs.laws.ways_are_small.Goals as goal

pub returns : goal.returns
returns c = ways_are_small
