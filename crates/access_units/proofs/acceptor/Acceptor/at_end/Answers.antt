use Rattle.std.proofs.Common.{None}
use Rattle.access_units.proofs.acceptor.Acceptor.at_end.Goals as goal

pub returns-then-eq-clause-units : goal.returns-then-eq-clause-units
returns-then-eq-clause-units c = λ ended nothing text settled stands known. c.finish.ensures text settled None stands known
