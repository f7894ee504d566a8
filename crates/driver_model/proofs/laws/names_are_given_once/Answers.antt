use Rattle.driver_model.proofs.Leading as leading
use Rattle.driver_model.proofs.laws.names_are_given_once.Goals as goal

pub returns : goal.returns
returns c = record { given = leading.names_are_given; once = leading.names_are_given_once }
