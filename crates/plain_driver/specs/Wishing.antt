-- What is told of a wish that holds.
use Rattle.std.specs.Prelude.{ℕ, Some}
use Rattle.driver_model.specs.declared.replies.Answer.{Answer}
use Rattle.driver_model.specs.declared.replies.Answer.TheVariants.{Holds}

abbrev pub held_told : ℕ → Answer
held_told place = Holds (Some place)
