use Rattle.std.proofs.Common.{SFits, rules, to_z-of_z, w32}
use Rattle.std.proofs.lemmas.Result.{err_from_is_err_and}
use Rattle.slice_header.specs.Spelling.{orders}
use Rattle.element_tables.proofs.Tables.{gives_made, gives_stop, gives_then}
use Rattle.slice_header.proofs.numbers_reading.read_orders.Goals as goal

pub returns-in_err-poc_lsb : goal.returns-in_err-poc_lsb
unfolding orders
returns-in_err-poc_lsb c =
    let p = err_from_is_err_and c.from_residual.result c.from_residual.ensures.1 in
    rw (p.1, p.2) (gives_stop _ c.in_err-poc_lsb.ensures)

pub returns-in_err-delta_bottom : goal.returns-in_err-delta_bottom
unfolding orders
returns-in_err-delta_bottom c =
    let p = err_from_is_err_and c.from_residual-in_err-delta_bottom.result c.from_residual-in_err-delta_bottom.ensures.1 in
    rw (p.1, p.2) (gives_then _ c.in_ok-poc_lsb.ensures (gives_stop _ (rw c.has_bottom.ensures at c.in_err-delta_bottom.ensures)))

pub returns-in_err-first : goal.returns-in_err-first
unfolding orders
returns-in_err-first c =
    let p = err_from_is_err_and c.from_residual-in_err-first.result c.from_residual-in_err-first.ensures.1 in
    rw (p.1, p.2) (gives_then _ c.in_ok-poc_lsb.ensures (gives_then _ (rw c.has_bottom.ensures at c.in_ok-delta_bottom.ensures) (gives_stop _ (rw c.has_delta.ensures at c.in_err-first.ensures))))

pub returns-in_err-second : goal.returns-in_err-second
unfolding orders
returns-in_err-second c =
    let p = err_from_is_err_and c.from_residual-in_err-second.result c.from_residual-in_err-second.ensures.1 in
    rw (p.1, p.2) (gives_then _ c.in_ok-poc_lsb.ensures (gives_then _ (rw c.has_bottom.ensures at c.in_ok-delta_bottom.ensures) (gives_then _ (rw c.has_delta.ensures at c.in_ok-first.ensures) (gives_stop _ (rw c.has_second_delta.ensures at c.in_err-second.ensures)))))

pub returns : goal.returns
unfolding orders
returns c =
    let fits-delta_bottom : SFits w32 c.in_ok-delta_bottom.delta_bottom = search rules in
    let fits-first : SFits w32 c.in_ok-first.first = search rules in
    let fits-second : SFits w32 c.in_ok-second.second = search rules in
    rw (to_z-of_z fits-delta_bottom, to_z-of_z fits-first, to_z-of_z fits-second) (gives_then _ c.in_ok-poc_lsb.ensures (gives_then _ (rw c.has_bottom.ensures at c.in_ok-delta_bottom.ensures) (gives_then _ (rw c.has_delta.ensures at c.in_ok-first.ensures) (gives_then _ (rw c.has_second_delta.ensures at c.in_ok-second.ensures) (gives_made _ _)))))
