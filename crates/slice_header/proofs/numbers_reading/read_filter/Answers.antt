use Rattle.std.proofs.Common.{SFits, rules, to_z-of_z, w32}
use Rattle.std.proofs.lemmas.Result.{err_from_is_err_and}
use Rattle.slice_header.specs.Spelling.{filter}
use Rattle.element_tables.proofs.Tables.{gives_made, gives_stop, gives_then}
use Rattle.slice_header.proofs.numbers_reading.read_filter.Goals as goal

pub returns-in_err-qp_delta : goal.returns-in_err-qp_delta
unfolding filter
returns-in_err-qp_delta c =
    let p = err_from_is_err_and c.from_residual.result c.from_residual.ensures.1 in
    rw (p.1, p.2) (gives_stop _ c.in_err-qp_delta.ensures)

pub returns-in_err-idc : goal.returns-in_err-idc
unfolding filter
returns-in_err-idc c =
    let p = err_from_is_err_and c.from_residual-in_err-idc.result c.from_residual-in_err-idc.ensures.1 in
    rw (p.1, p.2) (gives_then _ c.in_ok-qp_delta.ensures (gives_stop _ c.in_err-idc.ensures))

pub returns-in_err-alpha_half : goal.returns-in_err-alpha_half
unfolding filter
returns-in_err-alpha_half c =
    let p = err_from_is_err_and c.from_residual-in_err-alpha_half.result c.from_residual-in_err-alpha_half.ensures.1 in
    rw (p.1, p.2) (gives_then _ c.in_ok-qp_delta.ensures (gives_then _ c.in_ok-idc.ensures (gives_stop _ (rw c.has_offsets.ensures at c.in_err-alpha_half.ensures))))

pub returns-in_err-beta_half : goal.returns-in_err-beta_half
unfolding filter
returns-in_err-beta_half c =
    let p = err_from_is_err_and c.from_residual-in_err-beta_half.result c.from_residual-in_err-beta_half.ensures.1 in
    rw (p.1, p.2) (gives_then _ c.in_ok-qp_delta.ensures (gives_then _ c.in_ok-idc.ensures (gives_then _ (rw c.has_offsets.ensures at c.in_ok-alpha_half.ensures) (gives_stop _ (rw c.has_offsets-2.ensures at c.in_err-beta_half.ensures)))))

pub returns : goal.returns
unfolding filter
returns c =
    let fits-qp_delta : SFits w32 c.in_ok-qp_delta.qp_delta = search rules in
    let fits-alpha_half : SFits w32 c.in_ok-alpha_half.alpha_half = search rules in
    let fits-beta_half : SFits w32 c.in_ok-beta_half.beta_half = search rules in
    rw (to_z-of_z fits-qp_delta, to_z-of_z fits-alpha_half, to_z-of_z fits-beta_half) (gives_then _ c.in_ok-qp_delta.ensures (gives_then _ c.in_ok-idc.ensures (gives_then _ (rw c.has_offsets.ensures at c.in_ok-alpha_half.ensures) (gives_then _ (rw c.has_offsets-2.ensures at c.in_ok-beta_half.ensures) (gives_made _ _)))))
