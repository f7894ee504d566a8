use Rattle.std.proofs.Common.{◌∙◌, sym}
use Rattle.cb_tables.proofs.TokenLemmas.{listed_candidate, listed_only_at}
use Rattle.cb_tables.proofs.coeff_token.listed_candidate.Goals as goal

pub returns-clause-token : goal.returns-clause-token
returns-clause-token c =
    let slot = c.slot_of-slot.ensures in
    let at = c.slot_of-slot.result in
    listed_candidate c.args.table c.min-list.result at.leading at.next c.from.result c.from-2.result c.requires.list c.requires.listed slot.limited slot.of_bits c.min-list.ensures c.from.ensures c.from-2.ensures

pub returns-clause-only : goal.returns-clause-only
returns-clause-only c total ones is begins =
    let at = c.slot_of-slot.result in
    let only = listed_only_at c.args.table c.min-list.result total ones c.args.window at.leading at.next c.requires.listed c.min-list.ensures is c.slot_of-slot.ensures begins in
    (only.0 ∙ sym c.from.ensures, only.1 ∙ sym c.from-2.ensures)
