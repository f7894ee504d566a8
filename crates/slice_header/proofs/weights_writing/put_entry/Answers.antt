use Rattle.std.proofs.lemmas.Result.{err_from_is_err_and, on_err_weaker, on_ok_weaker}
use Rattle.element_tables.proofs.Tables.{appends_made, appends_then}
use Rattle.slice_header.proofs.Written.{extends_then}
use Rattle.slice_header.specs.Spelling.{entry_weights}
use Rattle.slice_header.proofs.weights_writing.put_entry.Goals as goal

pub returns-in_err-put_luma : goal.returns-in_err-put_luma
returns-in_err-put_luma c =
    let p = err_from_is_err_and c.from_residual.result c.from_residual.ensures.1 in
    rw p.1 (record { ok = tt; err = c.in_err-put_luma.ensures.err })

pub returns : goal.returns
unfolding entry_weights
returns c =
    record {
      ok = on_ok_weaker c.put_chroma.result (λ e. (appends_then _ c.in_ok-put_luma.ensures.ok
          (appends_then _ e (appends_made _ _)))) c.put_chroma.ensures.ok;
      err = on_err_weaker c.put_chroma.result (λ e. (extends_then c.in_ok-put_luma.ensures.ok e)) c.put_chroma.ensures.err;
    }
