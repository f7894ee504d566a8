use Rattle.std.proofs.Common.{SFits, rules, to_z-of_z, w32}
use Rattle.std.proofs.lemmas.Result.{err_from_is_err_and}
use Rattle.slice_header.specs.Spelling.{weight}
use Rattle.element_tables.proofs.Tables.{gives_made, gives_stop, gives_then}
use Rattle.slice_header.proofs.weights_reading.read_weight.Goals as goal

pub returns-in_err-weight : goal.returns-in_err-weight
unfolding weight
returns-in_err-weight c =
    let p = err_from_is_err_and c.from_residual.result c.from_residual.ensures.1 in
    rw (p.1, p.2) (gives_stop _ c.in_err-weight.ensures)

pub returns-in_err-offset : goal.returns-in_err-offset
unfolding weight
returns-in_err-offset c =
    let p = err_from_is_err_and c.from_residual-in_err-offset.result c.from_residual-in_err-offset.ensures.1 in
    rw (p.1, p.2) (gives_then _ c.in_ok-weight.ensures (gives_stop _ c.in_err-offset.ensures))

pub returns : goal.returns
unfolding weight
returns c =
    let fits-weight : SFits w32 c.in_ok-weight.weight = search rules in
    let fits-offset : SFits w32 c.in_ok-offset.offset = search rules in
    rw (to_z-of_z fits-weight, to_z-of_z fits-offset) (gives_then _ c.in_ok-weight.ensures (gives_then _ c.in_ok-offset.ensures (gives_made _ _)))
