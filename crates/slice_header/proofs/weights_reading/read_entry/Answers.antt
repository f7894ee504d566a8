use Rattle.std.proofs.lemmas.Result.{err_from_is_err_and}
use Rattle.slice_header.specs.Spelling.{entry_weights}
use Rattle.element_tables.proofs.Tables.{gives_made, gives_stop, gives_then}
use Rattle.slice_header.proofs.weights_reading.read_entry.Goals as goal

pub returns-in_err-luma : goal.returns-in_err-luma
unfolding entry_weights
returns-in_err-luma c =
    let p = err_from_is_err_and c.from_residual.result c.from_residual.ensures.1 in
    rw (p.1, p.2) (gives_stop _ c.in_err-luma.ensures)

pub returns-in_err-chroma : goal.returns-in_err-chroma
unfolding entry_weights
returns-in_err-chroma c =
    let p = err_from_is_err_and c.from_residual-in_err-chroma.result c.from_residual-in_err-chroma.ensures.1 in
    rw (p.1, p.2) (gives_then _ c.in_ok-luma.ensures (gives_stop _ c.in_err-chroma.ensures))

pub returns : goal.returns
unfolding entry_weights
returns c =
    (gives_then _ c.in_ok-luma.ensures (gives_then _ c.in_ok-chroma.ensures (gives_made _ _)))
