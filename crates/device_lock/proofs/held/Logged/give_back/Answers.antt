use Rattle.std.proofs.Common.{rules}
use Rattle.device_lock.proofs.Keeps.{serves_logged}
use Rattle.device_lock.proofs.held.Logged.give_back.Goals as goal

pub fetch_add-requires : goal.fetch_add-requires
fetch_add-requires g c = (search rules, search rules, serves_logged g.T.Kept.caller g.T.Kept.stands g.T.Kept.at_rest _ _ _ c.args.self.turn.0 c.args.self.slot)
