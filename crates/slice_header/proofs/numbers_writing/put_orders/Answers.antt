use Rattle.std.proofs.lemmas.Result.{err_from_is_err_and, on_err_weaker, on_ok_weaker}
use Rattle.element_tables.proofs.Tables.{appends_made, appends_then}
use Rattle.slice_header.proofs.Written.{extends_then}
use Rattle.std.proofs.Common.{List, SFits, get_or, pos, rules, subst, to_z-of_z, w32, ℤ}
use Rattle.element_tables.specs.Syntax.{Appends}
use Rattle.slice_header.specs.Spelling.{orders}
use Rattle.slice_header.proofs.Deltas.{places}
use Rattle.slice_header.proofs.numbers_writing.put_orders.Goals as goal

pub returns-in_err-put_lsb : goal.returns-in_err-put_lsb
returns-in_err-put_lsb c =
    let p = err_from_is_err_and c.from_residual.result c.from_residual.ensures.1 in
    rw p.1 (record { ok = tt; err = c.in_err-put_lsb.ensures.err })

pub returns-in_err-put_delta : goal.returns-in_err-put_delta
returns-in_err-put_delta c =
    let p = err_from_is_err_and c.from_residual-in_err-put_delta.result c.from_residual-in_err-put_delta.ensures.1 in
    rw p.1 (record { ok = tt; err = (extends_then c.in_ok-put_lsb.ensures.ok c.in_err-put_delta.ensures.err) })

pub returns-in_err-put_delta-2 : goal.returns-in_err-put_delta-2
returns-in_err-put_delta-2 c =
    let p = err_from_is_err_and c.from_residual-in_err-put_delta-2.result c.from_residual-in_err-put_delta-2.ensures.1 in
    rw p.1 (record { ok = tt; err = (extends_then c.in_ok-put_lsb.ensures.ok (extends_then c.in_ok-put_delta.ensures.ok c.in_err-put_delta-2.ensures.err)) })

pub returns : goal.returns
unfolding orders
returns c =
    let fits-bottom : SFits w32 c.args.header.now.delta_bottom = search rules in
    let fits-first : SFits w32 (get_or c.args.header.now.delta_poc 0 (pos 0)) = search rules in
    let fits-second : SFits w32 (get_or c.args.header.now.delta_poc 1 (pos 0)) = search rules in
    let at = places c.args.info.now c.args.header.now.delta_poc c.requires.header.delta_poc in
    record {
      ok = on_ok_weaker c.put_delta-3.result (λ e. subst (λ (ds : List ℤ). Appends (orders c.args.info.now) (record { poc_lsb = c.args.header.now.poc_lsb; delta_bottom = c.args.header.now.delta_bottom; delta_poc = ds }) c.args.out.now c.put_delta-3.new.out) at.whole (appends_then _ c.in_ok-put_lsb.ensures.ok
          (appends_then _ (rw (c.has_bottom.ensures, to_z-of_z fits-bottom) at c.in_ok-put_delta.ensures.ok)
          (appends_then _ (rw (c.has_delta.ensures, to_z-of_z fits-first) at c.in_ok-put_delta-2.ensures.ok)
          (appends_then _ (rw (c.has_second_delta.ensures, to_z-of_z fits-second) at e) (appends_made _ _)))))) c.put_delta-3.ensures.ok;
      err = on_err_weaker c.put_delta-3.result (λ e. (extends_then c.in_ok-put_lsb.ensures.ok (extends_then c.in_ok-put_delta.ensures.ok (extends_then c.in_ok-put_delta-2.ensures.ok e)))) c.put_delta-3.ensures.err;
    }
