use Rattle.std.proofs.lemmas.Result.{err_from_is_err_and}
use Rattle.param_sets.specs.Sps.{cropping}
use Rattle.element_tables.proofs.Tables.{gives_made, gives_stop, gives_then}
use Rattle.param_sets.proofs.sps_reading.read_present_cropping.Goals as goal

pub returns-in_err-left : goal.returns-in_err-left
unfolding cropping
returns-in_err-left c =
    let p = err_from_is_err_and c.from_residual.result c.from_residual.ensures.1 in
    rw (p.1, p.2) (gives_stop _ c.in_err-left.ensures)

pub returns-in_err-right : goal.returns-in_err-right
unfolding cropping
returns-in_err-right c =
    let p = err_from_is_err_and c.from_residual-in_err-right.result c.from_residual-in_err-right.ensures.1 in
    rw (p.1, p.2) (gives_then _ c.in_ok-left.ensures (gives_stop _ c.in_err-right.ensures))

pub returns-in_err-top : goal.returns-in_err-top
unfolding cropping
returns-in_err-top c =
    let p = err_from_is_err_and c.from_residual-in_err-top.result c.from_residual-in_err-top.ensures.1 in
    rw (p.1, p.2) (gives_then _ c.in_ok-left.ensures (gives_then _ c.in_ok-right.ensures (gives_stop _ c.in_err-top.ensures)))

pub returns-in_err-bottom : goal.returns-in_err-bottom
unfolding cropping
returns-in_err-bottom c =
    let p = err_from_is_err_and c.from_residual-in_err-bottom.result c.from_residual-in_err-bottom.ensures.1 in
    rw (p.1, p.2) (gives_then _ c.in_ok-left.ensures (gives_then _ c.in_ok-right.ensures (gives_then _ c.in_ok-top.ensures (gives_stop _ c.in_err-bottom.ensures))))

pub returns : goal.returns
unfolding cropping
returns c =
    gives_then _ c.in_ok-left.ensures (gives_then _ c.in_ok-right.ensures (gives_then _ c.in_ok-top.ensures (gives_then _ c.in_ok-bottom.ensures (gives_made _ _))))
