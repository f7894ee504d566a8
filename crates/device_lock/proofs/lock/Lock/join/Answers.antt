use Rattle.std.proofs.Common.{rules}
use Rattle.device_lock.proofs.Keeps.{joins, learns}
use Rattle.device_lock.proofs.lock.Lock.join.Goals as goal

pub join_seat-requires : goal.join_seat-requires
join_seat-requires g c = (search rules, search rules, search rules, search rules, joins g.T.Kept.caller g.T.Kept.stands g.T.Kept.at_rest _ _ _ _ c.args.a.away c.args.b.away c.requires.rest)

pub load-requires : goal.load-requires
load-requires g c = (search rules, search rules, learns g.T.Kept.caller g.T.Kept.stands g.T.Kept.at_rest _ _ _ (search rules))
