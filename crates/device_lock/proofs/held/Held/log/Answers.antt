use Rattle.std.proofs.Common.{rules, sym, subst, ◌≡◌, ◌++◌, [], ◌∷◌, false}
use Rattle.device_lock.specs.declared.view.Turn.TheVariants.{Holding}
use Rattle.device_lock.proofs.Keeps.{logs_item, named}
use Rattle.device_lock.proofs.held.Held.log.Goals as goal

pub fetch_add-place-requires : goal.fetch_add-place-requires
fetch_add-place-requires g c =
    let put = c.put-seat.ensures.me in
    let turn = c.args.self.hand.turn in
    let view = c.args.self.hand.seat.me.0 in
    let k = g.T.Kept in
    let item = named (λ x. k.caller x ≡ view.number) (λ x. k.stands c.args.self.value (view.seen ++ x ∷ [])) g.W.Names.item c.requires.item c.requires.own c.requires.value in (
      search rules,
      search rules,
      logs_item k.caller k.stands k.at_rest _ _ _ _ item.0 c.args.self.value (subst (λ m. m.0.turn ≡ Holding) (sym put) turn.0) (subst (λ m. m.0.spent ≡ false) (sym put) turn.1) (λ i. (put i).1) item.1
          (subst (λ m. k.caller item.0 ≡ m.0.number) (sym put) item.2) (subst (λ m. k.stands c.args.self.value (m.0.seen ++ item.0 ∷ [])) (sym put) item.3),
    )
