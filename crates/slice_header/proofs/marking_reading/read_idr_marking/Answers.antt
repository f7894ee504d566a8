use Rattle.std.proofs.lemmas.Result.{err_from_is_err_and}
use Rattle.slice_header.specs.Spelling.{idr_marking}
use Rattle.element_tables.proofs.Tables.{gives_made, gives_stop, gives_then}
use Rattle.slice_header.proofs.marking_reading.read_idr_marking.Goals as goal

pub returns-in_err-no_output : goal.returns-in_err-no_output
unfolding idr_marking
returns-in_err-no_output c =
    let p = err_from_is_err_and c.from_residual.result c.from_residual.ensures.1 in
    rw (p.1, p.2) (gives_stop _ c.in_err-no_output.ensures)

pub returns-in_err-long_term : goal.returns-in_err-long_term
unfolding idr_marking
returns-in_err-long_term c =
    let p = err_from_is_err_and c.from_residual-in_err-long_term.result c.from_residual-in_err-long_term.ensures.1 in
    rw (p.1, p.2) (gives_then _ c.in_ok-no_output.ensures (gives_stop _ c.in_err-long_term.ensures))

pub returns : goal.returns
unfolding idr_marking
returns c =
    (gives_then _ c.in_ok-no_output.ensures (gives_then _ c.in_ok-long_term.ensures (gives_made _ _)))
