use Rattle.access_units.proofs.OneAnswer.{answers_one, next_one}
use Rattle.access_units.proofs.laws.answers_are_one.Goals as goal

pub returns : goal.returns
returns c = record { answers = answers_one; pictures = next_one }
