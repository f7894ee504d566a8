use Rattle.std.proofs.lemmas.Result.{err_from_is_err_and}
use Rattle.element_tables.proofs.Tables.{gives_stop, gives_then}
use Rattle.slice_header.specs.Spelling.{later_marking}
use Rattle.slice_header.proofs.marking_reading.read_later_marking.Goals as goal

pub returns-in_err-is_adaptive : goal.returns-in_err-is_adaptive
unfolding later_marking
returns-in_err-is_adaptive c =
    let p = err_from_is_err_and c.from_residual.result c.from_residual.ensures.1 in
    rw (p.1, p.2) (gives_stop _ c.in_err-is_adaptive.ensures)

pub returns : goal.returns
unfolding later_marking
returns c = gives_then _ c.in_ok-is_adaptive.ensures c.read_adaptive_marking.ensures
