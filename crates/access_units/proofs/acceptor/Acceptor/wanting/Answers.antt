use Rattle.access_units.proofs.AskLemmas.{at_end, hungry}
use Rattle.access_units.proofs.acceptor.Acceptor.wanting.Goals as goal

pub returns-then-self-clause-answer : goal.returns-then-self-clause-answer
returns-then-self-clause-answer c = λ past s outcome. at_end c.args.self.now past s outcome c.requires c.if-self.true

pub returns-clause-answer : goal.returns-clause-answer
returns-clause-answer c = λ past s outcome. hungry c.args.self.now past s outcome c.requires c.if-self.false
