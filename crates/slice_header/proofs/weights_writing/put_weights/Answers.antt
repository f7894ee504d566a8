use Rattle.std.proofs.Common.{subst, sym}
use Rattle.std.proofs.lemmas.Result.{on_err_weaker, on_ok_weaker}
use Rattle.element_tables.specs.Syntax.{Appends, present}
use Rattle.element_tables.proofs.Tables.{appends_absent, appends_present}
use Rattle.std.proofs.Common.{◌∙◌, arith, ◌≤◌}
use Rattle.cb_types.specs.Slices.{active_entries}
use Rattle.slice_header.specs.Spelling.{no_weights, pred_weight_table}
use Rattle.slice_header.specs.Conditions.{has_weights}
use Rattle.slice_header.specs.Headers.{weights_as_read}
use Rattle.slice_header.proofs.Absent.{weights_absent}
use Rattle.slice_header.proofs.weights_writing.put_weights.Goals as goal

pub returns-then-not-has_weights : goal.returns-then-not-has_weights
returns-then-not-has_weights c = record {
  ok = subst (λ x. Appends (present (has_weights c.args.info.now c.args.header.now.slice_type) (pred_weight_table (active_entries c.args.info.now c.args.header.now)) no_weights) x c.args.out.now c.args.out.now) (sym (weights_absent c.args.info.now c.args.header.now c.requires (sym c.has_weights.ensures ∙ c.if-not-has_weights.true))) (appends_absent (pred_weight_table (active_entries c.args.info.now c.args.header.now)) no_weights (has_weights c.args.info.now c.args.header.now.slice_type) c.args.out.now (sym c.has_weights.ensures ∙ c.if-not-has_weights.true));
  err = tt;
}

pub returns : goal.returns
returns c = record {
  ok = on_ok_weaker c.put_table.result (λ e. appends_present (pred_weight_table (active_entries c.args.info.now c.args.header.now)) no_weights (weights_as_read (active_entries c.args.info.now c.args.header.now) c.args.header.now.weights) (has_weights c.args.info.now c.args.header.now.slice_type) _ _ (sym c.has_weights.ensures ∙ c.if-not-has_weights.false) (rw c.active_entries.ensures at e)) c.put_table.ensures.ok;
  err = on_err_weaker c.put_table.result (λ e. e) c.put_table.ensures.err;
}

pub active_entries-requires : goal.active_entries-requires
active_entries-requires c =
    let most : active_entries c.args.info.now c.args.header.now ≤ 16 = c.requires.active in
    omega (arith, most)

pub put_table-requires : goal.put_table-requires
put_table-requires c = rw c.active_entries.ensures (c.requires.weights (sym c.has_weights.ensures ∙ c.if-not-has_weights.false))
