use Rattle.std.proofs.Common.{subst, sym}
use Rattle.std.proofs.lemmas.Result.{on_err_weaker, on_ok_weaker}
use Rattle.element_tables.specs.Syntax.{Appends, present}
use Rattle.element_tables.proofs.Tables.{appends_absent, appends_present}
use Rattle.slice_header.proofs.Written.{extends_same}
use Rattle.std.proofs.Common.{pos, refl, to_z-of_z}
use Rattle.element_tables.specs.Syntax.{any, se}
use Rattle.element_tables.proofs.OneElement.{se_appended}
use Rattle.element_tables.proofs.Rules.{se_fits}
use Rattle.slice_header.proofs.numbers_writing.put_delta.Goals as goal

pub returns-then-not-is_present : goal.returns-then-not-is_present
returns-then-not-is_present c = record {
  ok = subst (λ x. Appends (present c.args.is_present (se any) (pos 0)) x c.args.out.now c.args.out.now) (sym (c.requires.absent c.if-not-is_present.true)) (appends_absent (se any) (pos 0) c.args.is_present c.args.out.now c.if-not-is_present.true);
  err = tt;
}

pub returns : goal.returns
returns c = record {
  ok = on_ok_weaker c.put_se.result (λ e. appends_present (se any) (pos 0) c.args.value c.args.is_present _ _ c.if-not-is_present.false (se_appended any c.args.value _ _ c.requires.value refl (rw (to_z-of_z (se_fits c.args.value c.requires.value)) at e))) c.put_se.ensures.ok;
  err = on_err_weaker c.put_se.result (λ e. (extends_same e)) c.put_se.ensures.err;
}
