use Rattle.std.proofs.lemmas.Result.{err_from_is_err_and}
use Rattle.slice_header.specs.Spelling.{slice_header}
use Rattle.element_tables.proofs.Tables.{gives_made, gives_stop, gives_then}
use Rattle.std.proofs.Common.{arith, ◌≤◌}
use Rattle.slice_header.specs.Conditions.{active_of}
use Rattle.slice_header.proofs.Actives.{active_most, present_override}
use Rattle.slice_header.proofs.reading.read_elements.Goals as goal

pub returns-in_err-numbers : goal.returns-in_err-numbers
unfolding slice_header
returns-in_err-numbers c =
    let p = err_from_is_err_and c.from_residual.result c.from_residual.ensures.1 in
    rw (p.1, p.2) (gives_stop _ c.in_err-numbers.ensures)

pub returns-in_err-orders : goal.returns-in_err-orders
unfolding slice_header
returns-in_err-orders c =
    let p = err_from_is_err_and c.from_residual-in_err-orders.result c.from_residual-in_err-orders.ensures.1 in
    rw (p.1, p.2) (gives_then _ c.in_ok-numbers.ensures (gives_stop _ c.in_err-orders.ensures))

pub returns-in_err-references : goal.returns-in_err-references
unfolding slice_header
returns-in_err-references c =
    let p = err_from_is_err_and c.from_residual-in_err-references.result c.from_residual-in_err-references.ensures.1 in
    rw (p.1, p.2) (gives_then _ c.in_ok-numbers.ensures (gives_then _ c.in_ok-orders.ensures (gives_stop _ c.in_err-references.ensures)))

pub returns-in_err-weights : goal.returns-in_err-weights
unfolding slice_header
returns-in_err-weights c =
    let p = err_from_is_err_and c.from_residual-in_err-weights.result c.from_residual-in_err-weights.ensures.1 in
    rw (p.1, p.2) (gives_then _ c.in_ok-numbers.ensures (gives_then _ c.in_ok-orders.ensures (gives_then _ c.in_ok-references.ensures (gives_stop _ (rw (c.active_of-active.ensures, c.has_weights.ensures) at c.in_err-weights.ensures)))))

pub returns-in_err-marking : goal.returns-in_err-marking
unfolding slice_header
returns-in_err-marking c =
    let p = err_from_is_err_and c.from_residual-in_err-marking.result c.from_residual-in_err-marking.ensures.1 in
    rw (p.1, p.2) (gives_then _ c.in_ok-numbers.ensures (gives_then _ c.in_ok-orders.ensures (gives_then _ c.in_ok-references.ensures (gives_then _ (rw (c.active_of-active.ensures, c.has_weights.ensures) at c.in_ok-weights.ensures) (gives_stop _ c.in_err-marking.ensures)))))

pub returns-in_err-filter : goal.returns-in_err-filter
unfolding slice_header
returns-in_err-filter c =
    let p = err_from_is_err_and c.from_residual-in_err-filter.result c.from_residual-in_err-filter.ensures.1 in
    rw (p.1, p.2) (gives_then _ c.in_ok-numbers.ensures (gives_then _ c.in_ok-orders.ensures (gives_then _ c.in_ok-references.ensures (gives_then _ (rw (c.active_of-active.ensures, c.has_weights.ensures) at c.in_ok-weights.ensures) (gives_then _ c.in_ok-marking.ensures (gives_stop _ c.in_err-filter.ensures))))))

pub returns : goal.returns
unfolding slice_header
returns c =
    rw (c.assembled.ensures) (gives_then _ c.in_ok-numbers.ensures (gives_then _ c.in_ok-orders.ensures (gives_then _ c.in_ok-references.ensures (gives_then _ (rw (c.active_of-active.ensures, c.has_weights.ensures) at c.in_ok-weights.ensures) (gives_then _ c.in_ok-marking.ensures (gives_then _ c.in_ok-filter.ensures (gives_made _ _)))))))

pub active_of-active-requires : goal.active_of-active-requires
active_of-active-requires c =
    let r = c.in_ok-references.references in
    let info = c.args.info.now in
    let most : active_of info r.active_override ≤ 16 = active_most info r.active_override c.requires (present_override info _ _ r _ c.in_ok-references.ensures.answer) in
    omega (arith, most)

pub read_weights-requires : goal.read_weights-requires
read_weights-requires c =
    let r = c.in_ok-references.references in
    let info = c.args.info.now in
    rw c.active_of-active.ensures (active_most info r.active_override c.requires (present_override info _ _ r _ c.in_ok-references.ensures.answer))
