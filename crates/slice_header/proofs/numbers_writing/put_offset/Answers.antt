use Rattle.std.proofs.Common.{subst, sym}
use Rattle.std.proofs.lemmas.Result.{on_err_weaker, on_ok_weaker}
use Rattle.element_tables.specs.Syntax.{Appends, present}
use Rattle.element_tables.proofs.Tables.{appends_absent, appends_present}
use Rattle.slice_header.proofs.Written.{extends_same}
use Rattle.std.proofs.Common.{negsuc, pos, to_z-of_z}
use Rattle.element_tables.specs.Syntax.{between, se}
use Rattle.element_tables.proofs.OneElement.{se_appended}
use Rattle.element_tables.proofs.Rules.{between_fits, se_fits}
use Rattle.slice_header.proofs.Signed.{offset_value}
use Rattle.slice_header.proofs.numbers_writing.put_offset.Goals as goal

pub returns-then-not-is_present : goal.returns-then-not-is_present
returns-then-not-is_present c = record {
  ok = subst (λ x. Appends (present c.args.is_present (se (between (negsuc 5) (pos 6))) (pos 0)) x c.args.out.now c.args.out.now) (sym (c.requires.absent c.if-not-is_present.true)) (appends_absent (se (between (negsuc 5) (pos 6))) (pos 0) c.args.is_present c.args.out.now c.if-not-is_present.true);
  err = tt;
}

pub returns : goal.returns
returns c = record {
  ok = on_ok_weaker c.put_se.result (λ e. appends_present (se (between (negsuc 5) (pos 6))) (pos 0) c.args.value c.args.is_present _ _ c.if-not-is_present.false (se_appended (between (negsuc 5) (pos 6)) c.args.value _ _ (offset_value c.args.value c.requires.least c.requires.most) (between_fits (negsuc 5) (pos 6) c.args.value c.requires.least c.requires.most) (rw (to_z-of_z (se_fits c.args.value (offset_value c.args.value c.requires.least c.requires.most))) at e))) c.put_se.ensures.ok;
  err = on_err_weaker c.put_se.result (λ e. (extends_same e)) c.put_se.ensures.err;
}

pub put_se-requires : goal.put_se-requires
put_se-requires c =
    let is = offset_value c.args.value c.requires.least c.requires.most in
    rw (to_z-of_z (se_fits c.args.value is)) is
