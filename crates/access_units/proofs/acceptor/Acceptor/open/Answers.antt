use Rattle.std.proofs.Common.{refl}
use Rattle.access_units.proofs.UnitOpened.{alone_from_more, opens_first, opens_next}
use Rattle.access_units.proofs.acceptor.Acceptor.open.Goals as goal

pub returns-then-is_none-clause-opened : goal.returns-then-is_none-clause-opened
returns-then-is_none-clause-opened c =
    let alone = alone_from_more c.empty_at-opened.result c.take_unit.new.hand c.args.unit.now c.empty_at-opened.ensures.holds c.in_ok-take_unit.ensures.more in
    opens_first _ _ _ c.take_unit.new.hand alone c.if-is_none.ensures refl refl

pub returns-else-is_none-clause-opened : goal.returns-else-is_none-clause-opened
returns-else-is_none-clause-opened c =
    let alone = alone_from_more c.empty_at-opened.result c.take_unit.new.hand c.args.unit.now c.empty_at-opened.ensures.holds c.in_ok-take_unit.ensures.more in
    opens_next _ _ _ c.take_unit.new.hand alone c.if-is_none.ensures refl refl
