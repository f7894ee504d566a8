use Rattle.std.proofs.lemmas.Result.{err_from_is_err_and, on_err_weaker, on_ok_weaker}
use Rattle.element_tables.proofs.Tables.{appends_made, appends_then}
use Rattle.slice_header.proofs.Written.{extends_then}
use Rattle.slice_header.specs.Spelling.{slice_header}
use Rattle.slice_header.proofs.writing.put_elements.Goals as goal

pub returns-in_err-put_numbers : goal.returns-in_err-put_numbers
returns-in_err-put_numbers c =
    let p = err_from_is_err_and c.from_residual.result c.from_residual.ensures.1 in
    rw p.1 (record { ok = tt; err = c.in_err-put_numbers.ensures.err })

pub returns-in_err-put_orders : goal.returns-in_err-put_orders
returns-in_err-put_orders c =
    let p = err_from_is_err_and c.from_residual-in_err-put_orders.result c.from_residual-in_err-put_orders.ensures.1 in
    rw p.1 (record { ok = tt; err = (extends_then c.in_ok-put_numbers.ensures.ok c.in_err-put_orders.ensures.err) })

pub returns-in_err-put_references : goal.returns-in_err-put_references
returns-in_err-put_references c =
    let p = err_from_is_err_and c.from_residual-in_err-put_references.result c.from_residual-in_err-put_references.ensures.1 in
    rw p.1 (record { ok = tt; err = (extends_then c.in_ok-put_numbers.ensures.ok (extends_then c.in_ok-put_orders.ensures.ok c.in_err-put_references.ensures.err)) })

pub returns-in_err-put_weights : goal.returns-in_err-put_weights
returns-in_err-put_weights c =
    let p = err_from_is_err_and c.from_residual-in_err-put_weights.result c.from_residual-in_err-put_weights.ensures.1 in
    rw p.1 (record { ok = tt; err = (extends_then c.in_ok-put_numbers.ensures.ok (extends_then c.in_ok-put_orders.ensures.ok (extends_then c.in_ok-put_references.ensures.ok c.in_err-put_weights.ensures.err))) })

pub returns-in_err-put_marking : goal.returns-in_err-put_marking
returns-in_err-put_marking c =
    let p = err_from_is_err_and c.from_residual-in_err-put_marking.result c.from_residual-in_err-put_marking.ensures.1 in
    rw p.1 (record { ok = tt; err = (extends_then c.in_ok-put_numbers.ensures.ok (extends_then c.in_ok-put_orders.ensures.ok (extends_then c.in_ok-put_references.ensures.ok (extends_then c.in_ok-put_weights.ensures.ok c.in_err-put_marking.ensures.err)))) })

pub returns : goal.returns
unfolding slice_header
returns c =
    record {
      ok = on_ok_weaker c.put_filter.result (λ e. (appends_then _ c.in_ok-put_numbers.ensures.ok
          (appends_then _ c.in_ok-put_orders.ensures.ok
          (appends_then _ c.in_ok-put_references.ensures.ok
          (appends_then _ c.in_ok-put_weights.ensures.ok
          (appends_then _ c.in_ok-put_marking.ensures.ok
          (appends_then _ e (appends_made _ _)))))))) c.put_filter.ensures.ok;
      err = on_err_weaker c.put_filter.result (λ e. (extends_then c.in_ok-put_numbers.ensures.ok (extends_then c.in_ok-put_orders.ensures.ok (extends_then c.in_ok-put_references.ensures.ok (extends_then c.in_ok-put_weights.ensures.ok (extends_then c.in_ok-put_marking.ensures.ok e)))))) c.put_filter.ensures.err;
    }
