use Rattle.std.proofs.Common.{[], sym}
use Rattle.access_units.proofs.GatherLemmas.{none_opened, none_opened_test}
use Rattle.access_units.proofs.acceptor.Acceptor.wants_unit.Goals as goal

pub find-requires : goal.find-requires
find-requires c =
    let r = c.requires in
    let none = none_opened_test c.args.self.now.opened c.is_some.result (sym c.is_some.ensures) c.if-is_some.false in
    (r.text, r.ended, r.told, r.broken, r.hand, r.front, none_opened c.args.self.now r.text r.ended r.told r.broken r.opened r.hand r.front none r.reads)

pub returns-clause-reads : goal.returns-clause-reads
returns-clause-reads c = λ text ended told broken opened hand front r.
    let none = none_opened_test c.args.self.now.opened c.is_some.result (sym c.is_some.ensures) c.if-is_some.false in
    let on = c.find.ensures.reads text ended told broken hand front (none_opened c.args.self.now text ended told broken opened hand front none r) in
    record { told = told; broken = on.0; opened = []; hand = on.1; reads = on.2 }
