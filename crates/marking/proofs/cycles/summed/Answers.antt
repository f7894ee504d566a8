use Rattle.std.proofs.Common.{arith}
use Rattle.std.proofs.lemmas.Int.{ints}
use Rattle.marking.proofs.cycles.summed.Goals as goal

pub returns-clause-value : goal.returns-clause-value
returns-clause-value c = λ e m d f g h. omega (arith, ints)

pub returns-clause-least : goal.returns-clause-least
returns-clause-least c = omega (arith, ints)

pub returns-clause-most : goal.returns-clause-most
returns-clause-most c = omega (arith, ints)
