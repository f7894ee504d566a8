use Rattle.std.proofs.Common.{◌∙◌, sym, subst}
use Rattle.cb_tables.specs.TotalZeros.{IsDcZeros}
use Rattle.cb_tables.proofs.ZerosLemmas.{dc_candidate, dc_only}
use Rattle.cb_tables.proofs.total_zeros.dc_candidate.Goals as goal

pub returns-clause-zeros : goal.returns-clause-zeros
returns-clause-zeros c =
    let slot = c.slot_of-slot.ensures in
    let at = c.slot_of-slot.result in
    subst (IsDcZeros c.args.total) (sym c.from.ensures) (dc_candidate c.args.total at.leading at.next c.requires.some c.requires.most slot.limited slot.of_bits)

pub returns-clause-only : goal.returns-clause-only
returns-clause-only c zeros is begins =
    let at = c.slot_of-slot.result in
    dc_only c.args.total zeros c.args.window at.leading at.next is c.slot_of-slot.ensures begins ∙ sym c.from.ensures
