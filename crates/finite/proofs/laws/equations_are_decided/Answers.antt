use Rattle.finite.proofs.Equal.{equal_bits, equal_integers, equal_numbers}
use Rattle.finite.proofs.laws.equations_are_decided.Goals as goal

pub returns : goal.returns
returns c = record { numbers = equal_numbers; integers = equal_integers; bits = equal_bits }
