use Rattle.std.proofs.lemmas.Result.{err_from_is_err_and}
use Rattle.slice_header.specs.Spelling.{pred_weight_table}
use Rattle.element_tables.proofs.Tables.{gives_made, gives_stop, gives_then}
use Rattle.slice_header.proofs.weights_reading.read_table.Goals as goal

pub returns-in_err-luma_denom : goal.returns-in_err-luma_denom
unfolding pred_weight_table
returns-in_err-luma_denom c =
    let p = err_from_is_err_and c.from_residual.result c.from_residual.ensures.1 in
    rw (p.1, p.2) (gives_stop _ c.in_err-luma_denom.ensures)

pub returns-in_err-chroma_denom : goal.returns-in_err-chroma_denom
unfolding pred_weight_table
returns-in_err-chroma_denom c =
    let p = err_from_is_err_and c.from_residual-in_err-chroma_denom.result c.from_residual-in_err-chroma_denom.ensures.1 in
    rw (p.1, p.2) (gives_then _ c.in_ok-luma_denom.ensures (gives_stop _ c.in_err-chroma_denom.ensures))

pub returns-in_err-entries : goal.returns-in_err-entries
unfolding pred_weight_table
returns-in_err-entries c =
    let p = err_from_is_err_and c.from_residual-in_err-entries.result c.from_residual-in_err-entries.ensures.1 in
    rw (p.1, p.2) (gives_then _ c.in_ok-luma_denom.ensures (gives_then _ c.in_ok-chroma_denom.ensures (gives_stop _ c.in_err-entries.ensures)))

pub returns : goal.returns
unfolding pred_weight_table
returns c =
    (gives_then _ c.in_ok-luma_denom.ensures (gives_then _ c.in_ok-chroma_denom.ensures (gives_then _ c.in_ok-entries.ensures (gives_made _ _))))
