use Rattle.std.proofs.Common.{rules, arith, sym, subst}
use Rattle.device_lock.specs.Views.{IsAway}
use Rattle.device_lock.proofs.Keeps.{draws}
use Rattle.device_lock.proofs.lock.Lock.draw.Goals as goal

pub compare_exchange-found-requires : goal.compare_exchange-found-requires
compare_exchange-found-requires g c = let same = c.loop.invariant in (
  search rules,
  search rules,
  draws g.T.Kept.caller g.T.Kept.stands g.T.Kept.at_rest _ _ _ _ (subst (λ m. IsAway m.0) (sym same.1) c.requires.away) (omega arith),
)
