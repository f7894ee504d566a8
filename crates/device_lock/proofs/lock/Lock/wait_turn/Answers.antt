use Rattle.std.proofs.Common.{rules, Some, false, sym, subst, ◌≡◌}
use Rattle.device_lock.specs.declared.view.Turn.TheVariants.{Waiting}
use Rattle.device_lock.proofs.Keeps.{looks}
use Rattle.device_lock.proofs.lock.Lock.wait_turn.Goals as goal

pub load-serving-requires : goal.load-serving-requires
load-serving-requires g c = let same = c.loop.invariant in (
  search rules,
  search rules,
  looks g.T.Kept.caller g.T.Kept.stands g.T.Kept.at_rest _ _ c.args.ticket _ (subst (λ m. m.0.ticket ≡ Some c.args.ticket) (sym same.1) c.requires.ticket.0) (subst (λ m. m.0.turn ≡ Waiting) (sym same.1) c.requires.ticket.1)
      (subst (λ m. m.0.spent ≡ false) (sym same.1) c.requires.ticket.2),
)
