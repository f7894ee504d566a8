use Rattle.std.proofs.Common.{rules, Some}
use Rattle.device_lock.proofs.Places.{in_hand}
use Rattle.device_lock.proofs.lock.Lock.take.Goals as goal

pub exchange-requires : goal.exchange-requires
exchange-requires g c = let turn = c.wait_turn.ensures.turn in (search rules, (Some turn.1, in_hand _ _ _ _ turn.2))
