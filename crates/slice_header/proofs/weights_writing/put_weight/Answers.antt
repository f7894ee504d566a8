use Rattle.std.proofs.lemmas.Result.{err_from_is_err_and, on_err_weaker, on_ok_weaker}
use Rattle.element_tables.proofs.Tables.{appends_made, appends_then}
use Rattle.slice_header.proofs.Written.{extends_more, extends_same}
use Rattle.std.proofs.Common.{SFits, negsuc, pos, rules, to_z-of_z, w32}
use Rattle.element_tables.proofs.OneElement.{se_appended}
use Rattle.element_tables.proofs.Rules.{between_fits, se_fits}
use Rattle.slice_header.specs.Spelling.{weight}
use Rattle.slice_header.proofs.Signed.{byte_value}
use Rattle.slice_header.proofs.weights_writing.put_weight.Goals as goal

pub returns-in_err-put_se : goal.returns-in_err-put_se
returns-in_err-put_se c =
    let p = err_from_is_err_and c.from_residual.result c.from_residual.ensures.1 in
    rw p.1 (record { ok = tt; err = (extends_same c.in_err-put_se.ensures.err) })

pub returns : goal.returns
unfolding weight
returns c =
    let fits-weight : SFits w32 c.args.weight.weight = search rules in
    let fits-offset : SFits w32 c.args.weight.offset = search rules in
    record {
      ok = on_ok_weaker c.put_se-2.result (λ e. (appends_then _ (se_appended _ c.args.weight.weight _ _ (byte_value c.args.weight.weight c.requires.weight_least c.requires.weight_most) (between_fits (negsuc 127) (pos 127) c.args.weight.weight c.requires.weight_least c.requires.weight_most) (rw (to_z-of_z fits-weight) at c.in_ok-put_se.ensures.ok))
          (appends_then _ (se_appended _ c.args.weight.offset _ _ (byte_value c.args.weight.offset c.requires.offset_least c.requires.offset_most) (between_fits (negsuc 127) (pos 127) c.args.weight.offset c.requires.offset_least c.requires.offset_most) (rw (to_z-of_z fits-offset) at e)) (appends_made _ _)))) c.put_se-2.ensures.ok;
      err = on_err_weaker c.put_se-2.result (λ e. (extends_more _ c.in_ok-put_se.ensures.ok (extends_same e))) c.put_se-2.ensures.err;
    }

pub put_se-requires : goal.put_se-requires
put_se-requires c =
    let is = byte_value c.args.weight.weight c.requires.weight_least c.requires.weight_most in
    rw (to_z-of_z (se_fits c.args.weight.weight is)) is
