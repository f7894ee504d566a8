use Rattle.std.proofs.Common.{sym, refl, subst}
use Rattle.file_rows.proofs.Feeding.{GivesNone, may_settle, settled, stays}
use Rattle.file_rows.proofs.turns.ask.Goals as goal

pub settle-requires : goal.settle-requires
settle-requires c = may_settle _ _ _ c.in_ok-next.ensures.turn (subst GivesNone c.in-Decode.is) c.requires

pub returns-in-Hungry : goal.returns-in-Hungry
returns-in-Hungry c = stays _ _ _ c.in_ok-next.ensures.turn (subst GivesNone (sym c.in-Hungry.is) tt)

pub returns-in_ok-format-in-Decode : goal.returns-in_ok-format-in-Decode
returns-in_ok-format-in-Decode c = settled _ _ _ _ c.args.picture.now c.in_ok-next.ensures.turn (subst GivesNone c.in-Decode.is) (c.settle.ensures.decoded refl)

pub returns-in_ok-format-in-Out-default-Some : goal.returns-in_ok-format-in-Out-default-Some
returns-in_ok-format-in-Out-default-Some c = stays _ _ _ c.in_ok-next.ensures.turn (subst GivesNone (sym c.in-Out-default-Some.is) tt)

pub returns-in_ok-format-in-Out-default-None : goal.returns-in_ok-format-in-Out-default-None
returns-in_ok-format-in-Out-default-None c = stays _ _ _ c.in_ok-next.ensures.turn (subst GivesNone (sym c.in-Out-default-None.is) tt)

pub returns-in_ok-format-in-Promise : goal.returns-in_ok-format-in-Promise
returns-in_ok-format-in-Promise c = stays _ _ _ c.in_ok-next.ensures.turn (subst GivesNone (sym c.in-Promise.is) tt)

pub returns-in_ok-format-in-Over : goal.returns-in_ok-format-in-Over
returns-in_ok-format-in-Over c = stays _ _ _ c.in_ok-next.ensures.turn (subst GivesNone (sym c.in-Over.is) tt)
