use Rattle.access_units.proofs.GatherLemmas.{no_tail}
use Rattle.access_units.proofs.acceptor.Acceptor.has_last.Goals as goal

pub returns-then-self-clause-yes : goal.returns-then-self-clause-yes
returns-then-self-clause-yes c = λ e. (c.if-self.true, (c.in-Some.hand, c.in-Some.is, λ refused empty. no_tail c.is_tail.result e (c.is_tail.ensures.1 (refused, empty))))
