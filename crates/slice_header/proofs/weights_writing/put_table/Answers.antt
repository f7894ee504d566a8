use Rattle.std.proofs.lemmas.Result.{err_from_is_err_and, on_err_weaker, on_ok_weaker}
use Rattle.element_tables.proofs.Tables.{appends_made, appends_then}
use Rattle.slice_header.proofs.Written.{extends_more, extends_same}
use Rattle.std.proofs.Common.{arith}
use Rattle.element_tables.proofs.OneElement.{ue_appended}
use Rattle.element_tables.proofs.Rules.{up_to_is}
use Rattle.slice_header.specs.Spelling.{pred_weight_table}
use Rattle.slice_header.proofs.weights_writing.put_table.Goals as goal

pub returns-in_err-put_ue : goal.returns-in_err-put_ue
returns-in_err-put_ue c =
    let p = err_from_is_err_and c.from_residual.result c.from_residual.ensures.1 in
    rw p.1 (record { ok = tt; err = (extends_same c.in_err-put_ue.ensures.err) })

pub returns-in_err-put_ue-2 : goal.returns-in_err-put_ue-2
returns-in_err-put_ue-2 c =
    let p = err_from_is_err_and c.from_residual-in_err-put_ue-2.result c.from_residual-in_err-put_ue-2.ensures.1 in
    rw p.1 (record { ok = tt; err = (extends_more _ c.in_ok-put_ue.ensures.ok (extends_same c.in_err-put_ue-2.ensures.err)) })

pub returns : goal.returns
unfolding pred_weight_table
returns c =
    record {
      ok = on_ok_weaker c.put_entries.result (λ e. (appends_then _ (ue_appended _ c.args.weights.now.luma_denom _ _ (omega (arith, c.requires.luma_denom)) (up_to_is c.args.weights.now.luma_denom 7 c.requires.luma_denom) c.in_ok-put_ue.ensures.ok)
          (appends_then _ (ue_appended _ c.args.weights.now.chroma_denom _ _ (omega (arith, c.requires.chroma_denom)) (up_to_is c.args.weights.now.chroma_denom 7 c.requires.chroma_denom) c.in_ok-put_ue-2.ensures.ok)
          (appends_then _ e (appends_made _ _))))) c.put_entries.ensures.ok;
      err = on_err_weaker c.put_entries.result (λ e. (extends_more _ c.in_ok-put_ue.ensures.ok (extends_more _ c.in_ok-put_ue-2.ensures.ok e))) c.put_entries.ensures.err;
    }
