use Rattle.std.proofs.Common.{◌∙◌, sym, subst}
use Rattle.cb_tables.specs.RunBefore.{IsRun}
use Rattle.cb_tables.proofs.RunLemmas.{short_candidate, short_only}
use Rattle.cb_tables.proofs.run_before.short_candidate.Goals as goal

pub returns-clause-run : goal.returns-clause-run
returns-clause-run c =
    let slot = c.slot_of-slot.ensures in
    let at = c.slot_of-slot.result in
    subst (IsRun c.args.left) (sym c.from.ensures) (short_candidate c.args.left at.leading at.next c.requires.some c.requires.few slot.limited slot.of_bits)

pub returns-clause-only : goal.returns-clause-only
returns-clause-only c run is begins =
    let at = c.slot_of-slot.result in
    short_only c.args.left run c.args.window at.leading at.next c.requires.few is c.slot_of-slot.ensures begins ∙ sym c.from.ensures
