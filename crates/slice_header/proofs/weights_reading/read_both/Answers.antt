use Rattle.std.proofs.lemmas.Result.{err_from_is_err_and}
use Rattle.slice_header.specs.Spelling.{chroma_weights}
use Rattle.element_tables.proofs.Tables.{gives_made, gives_stop, gives_then}
use Rattle.slice_header.proofs.weights_reading.read_both.Goals as goal

pub returns-in_err-cb : goal.returns-in_err-cb
unfolding chroma_weights
returns-in_err-cb c =
    let p = err_from_is_err_and c.from_residual.result c.from_residual.ensures.1 in
    rw (p.1, p.2) (gives_stop _ c.in_err-cb.ensures)

pub returns-in_err-cr : goal.returns-in_err-cr
unfolding chroma_weights
returns-in_err-cr c =
    let p = err_from_is_err_and c.from_residual-in_err-cr.result c.from_residual-in_err-cr.ensures.1 in
    rw (p.1, p.2) (gives_then _ c.in_ok-cb.ensures (gives_stop _ c.in_err-cr.ensures))

pub returns : goal.returns
unfolding chroma_weights
returns c =
    (gives_then _ c.in_ok-cb.ensures (gives_then _ c.in_ok-cr.ensures (gives_made _ _)))
