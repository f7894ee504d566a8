use Rattle.std.proofs.lemmas.Result.{err_from_is_err_and}
use Rattle.param_sets.proofs.Grouped.{grouped_pps, gives_pps}
use Rattle.element_tables.proofs.Tables.{gives_made, gives_stop, gives_then}
use Rattle.param_sets.proofs.pps_reading.read_picture.Goals as goal

pub returns-in_err-references : goal.returns-in_err-references
unfolding grouped_pps
returns-in_err-references c =
    let p = err_from_is_err_and c.from_residual.result c.from_residual.ensures.1 in
    rw (p.1, p.2) (gives_pps _ _ _ (gives_stop _ c.in_err-references.ensures))

pub returns-in_err-residuals : goal.returns-in_err-residuals
unfolding grouped_pps
returns-in_err-residuals c =
    let p = err_from_is_err_and c.from_residual-in_err-residuals.result c.from_residual-in_err-residuals.ensures.1 in
    rw (p.1, p.2) (gives_pps _ _ _ (gives_then _ c.in_ok-references.ensures (gives_stop _ c.in_err-residuals.ensures)))

pub returns : goal.returns
unfolding grouped_pps
returns c =
    rw c.assembled.ensures (gives_pps _ _ _ (gives_then _ c.in_ok-references.ensures (gives_then _ c.in_ok-residuals.ensures (gives_made _ _))))
