use Rattle.std.proofs.Common.{rules}
use Rattle.device_lock.proofs.Keeps.{splits, learns}
use Rattle.device_lock.proofs.lock.Lock.split.Goals as goal

pub split_seat-second-requires : goal.split_seat-second-requires
split_seat-second-requires g c = (search rules, search rules, splits g.T.Kept.caller g.T.Kept.stands g.T.Kept.at_rest _ _ c.args.pass.away)

pub load-requires : goal.load-requires
load-requires g c = (search rules, search rules, learns g.T.Kept.caller g.T.Kept.stands g.T.Kept.at_rest _ _ _ (search rules))

pub load-requires-2 : goal.load-requires-2
load-requires-2 g c = (search rules, search rules, learns g.T.Kept.caller g.T.Kept.stands g.T.Kept.at_rest _ _ _ (search rules))
