use Rattle.access_units.proofs.FeedStands.{stands_settled}
use Rattle.access_units.proofs.acceptor.Acceptor.settle.Goals as goal

pub returns : goal.returns
returns c = λ past s none. stands_settled c.args.self.now past c.args.accepted s none
