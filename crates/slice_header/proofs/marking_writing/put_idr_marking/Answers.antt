use Rattle.std.proofs.lemmas.Result.{err_from_is_err_and, on_err_weaker, on_ok_weaker}
use Rattle.element_tables.proofs.Tables.{appends_made, appends_then}
use Rattle.slice_header.proofs.Written.{extends_more, extends_same}
use Rattle.std.proofs.Common.{refl}
use Rattle.element_tables.proofs.OneElement.{flag_appended}
use Rattle.slice_header.specs.Spelling.{idr_marking}
use Rattle.slice_header.proofs.marking_writing.put_idr_marking.Goals as goal

pub returns-in_err-put_flag : goal.returns-in_err-put_flag
returns-in_err-put_flag c =
    let p = err_from_is_err_and c.from_residual.result c.from_residual.ensures.1 in
    rw p.1 (record { ok = tt; err = (extends_same c.in_err-put_flag.ensures.err) })

pub returns : goal.returns
unfolding idr_marking
returns c =
    record {
      ok = on_ok_weaker c.put_flag-2.result (λ e. (appends_then _ (flag_appended _ c.args.no_output _ _ refl c.in_ok-put_flag.ensures.ok)
          (appends_then _ (flag_appended _ c.args.long_term _ _ refl e) (appends_made _ _)))) c.put_flag-2.ensures.ok;
      err = on_err_weaker c.put_flag-2.result (λ e. (extends_more _ c.in_ok-put_flag.ensures.ok (extends_same e))) c.put_flag-2.ensures.err;
    }
