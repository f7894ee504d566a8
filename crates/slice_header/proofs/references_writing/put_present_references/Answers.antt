use Rattle.std.proofs.lemmas.Result.{err_from_is_err_and, on_err_weaker, on_ok_weaker}
use Rattle.element_tables.proofs.Tables.{appends_made, appends_then}
use Rattle.slice_header.proofs.Written.{extends_more, extends_same, extends_then}
use Rattle.std.proofs.Common.{refl}
use Rattle.element_tables.proofs.OneElement.{flag_appended}
use Rattle.slice_header.specs.Spelling.{references}
use Rattle.slice_header.proofs.references_writing.put_present_references.Goals as goal

pub returns-in_err-put_active_override : goal.returns-in_err-put_active_override
returns-in_err-put_active_override c =
    let p = err_from_is_err_and c.from_residual.result c.from_residual.ensures.1 in
    rw p.1 (record { ok = tt; err = c.in_err-put_active_override.ensures.err })

pub returns-in_err-put_flag : goal.returns-in_err-put_flag
returns-in_err-put_flag c =
    let p = err_from_is_err_and c.from_residual-in_err-put_flag.result c.from_residual-in_err-put_flag.ensures.1 in
    rw p.1 (record { ok = tt; err = (extends_then c.in_ok-put_active_override.ensures.ok (extends_same c.in_err-put_flag.ensures.err)) })

pub returns : goal.returns
unfolding references
returns c =
    record {
      ok = on_ok_weaker c.put_edits.result (λ e. (appends_then _ c.in_ok-put_active_override.ensures.ok
          (appends_then _ (flag_appended _ c.args.header.now.edited _ _ refl c.in_ok-put_flag.ensures.ok)
          (appends_then _ e (appends_made _ _))))) c.put_edits.ensures.ok;
      err = on_err_weaker c.put_edits.result (λ e. (extends_then c.in_ok-put_active_override.ensures.ok (extends_more _ c.in_ok-put_flag.ensures.ok e))) c.put_edits.ensures.err;
    }
