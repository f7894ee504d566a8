use Rattle.std.proofs.lemmas.Result.{err_from_is_err_and}
use Rattle.slice_header.specs.Spelling.{references}
use Rattle.element_tables.proofs.Tables.{gives_made, gives_stop, gives_then}
use Rattle.std.proofs.Common.{arith, ◌≤◌}
use Rattle.slice_header.specs.Conditions.{active_of}
use Rattle.slice_header.proofs.Actives.{active_most, override_range}
use Rattle.slice_header.proofs.references_reading.read_present_references.Goals as goal

pub returns-in_err-active_override : goal.returns-in_err-active_override
unfolding references
returns-in_err-active_override c =
    let p = err_from_is_err_and c.from_residual.result c.from_residual.ensures.1 in
    rw (p.1, p.2) (gives_stop _ c.in_err-active_override.ensures)

pub returns-in_err-edited : goal.returns-in_err-edited
unfolding references
returns-in_err-edited c =
    let p = err_from_is_err_and c.from_residual-in_err-edited.result c.from_residual-in_err-edited.ensures.1 in
    rw (p.1, p.2) (gives_then _ c.in_ok-active_override.ensures (gives_stop _ c.in_err-edited.ensures))

pub returns-in_err-edits : goal.returns-in_err-edits
unfolding references
returns-in_err-edits c =
    let p = err_from_is_err_and c.from_residual-in_err-edits.result c.from_residual-in_err-edits.ensures.1 in
    rw (p.1, p.2) (gives_then _ c.in_ok-active_override.ensures (gives_then _ c.in_ok-edited.ensures (gives_stop _ (rw c.active_of.ensures at c.in_err-edits.ensures))))

pub returns : goal.returns
unfolding references
returns c =
    (gives_then _ c.in_ok-active_override.ensures (gives_then _ c.in_ok-edited.ensures (gives_then _ (rw c.active_of.ensures at c.in_ok-edits.ensures) (gives_made _ _))))

pub active_of-requires : goal.active_of-requires
active_of-requires c =
    let o = c.in_ok-active_override.active_override in
    let most : active_of c.args.info.now o ≤ 16 = active_most c.args.info.now o c.requires.ranges (override_range c.args.reader.now o _ c.in_ok-active_override.ensures.answer) in
    omega (arith, most)

pub read_edits-requires-clause-active : goal.read_edits-requires-clause-active
read_edits-requires-clause-active c =
    let o = c.in_ok-active_override.active_override in
    rw c.active_of.ensures (active_most c.args.info.now o c.requires.ranges (override_range c.args.reader.now o _ c.in_ok-active_override.ensures.answer))
