use Rattle.std.proofs.Common.{rules, sym, subst, ◌≡◌}
use Rattle.device_lock.specs.declared.view.Turn.TheVariants.{Holding}
use Rattle.device_lock.proofs.Keeps.{serves_held}
use Rattle.device_lock.proofs.held.Held.give_back.Goals as goal

pub fetch_add-requires : goal.fetch_add-requires
fetch_add-requires g c = let put = c.put-home.ensures.me in (
  search rules,
  search rules,
  serves_held g.T.Kept.caller g.T.Kept.stands g.T.Kept.at_rest _ _ _ c.args.self.value (subst (λ m. m.0.turn ≡ Holding) (sym put) c.args.self.hand.turn.0) (λ k. (put k).1) (subst (λ m. g.T.Kept.stands c.args.self.value m.0.seen) (sym put) c.requires.value),
)
