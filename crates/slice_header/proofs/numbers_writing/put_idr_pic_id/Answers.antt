use Rattle.std.proofs.Common.{subst, sym}
use Rattle.std.proofs.lemmas.Result.{on_err_weaker, on_ok_weaker}
use Rattle.element_tables.specs.Syntax.{Appends, present}
use Rattle.element_tables.proofs.Tables.{appends_absent, appends_present}
use Rattle.slice_header.proofs.Written.{extends_same}
use Rattle.std.proofs.Common.{arith, eq-eqb, eqb, ne_eqb}
use Rattle.element_tables.specs.Syntax.{ue, up_to}
use Rattle.element_tables.proofs.OneElement.{ue_appended}
use Rattle.element_tables.proofs.Rules.{up_to_is}
use Rattle.slice_header.proofs.numbers_writing.put_idr_pic_id.Goals as goal

pub returns-then-header-ne5 : goal.returns-then-header-ne5
returns-then-header-ne5 c = record {
  ok = subst (λ x. Appends (present (eqb c.args.header.now.head.unit_type 5) (ue (up_to 65535)) 0) x c.args.out.now c.args.out.now) (sym (c.requires.idr_pic_id_absent (ne_eqb c.args.header.now.head.unit_type 5 c.if-header-ne5.true))) (appends_absent (ue (up_to 65535)) 0 (eqb c.args.header.now.head.unit_type 5) c.args.out.now (ne_eqb c.args.header.now.head.unit_type 5 c.if-header-ne5.true));
  err = tt;
}

pub returns : goal.returns
returns c = record {
  ok = on_ok_weaker c.put_ue.result (λ e. appends_present (ue (up_to 65535)) 0 c.args.header.now.idr_pic_id (eqb c.args.header.now.head.unit_type 5) _ _ (eq-eqb c.args.header.now.head.unit_type 5 c.if-header-ne5.false) (ue_appended (up_to 65535) c.args.header.now.idr_pic_id _ _ (omega (arith, c.requires.idr_pic_id)) (up_to_is c.args.header.now.idr_pic_id 65535 c.requires.idr_pic_id) e)) c.put_ue.ensures.ok;
  err = on_err_weaker c.put_ue.result (λ e. (extends_same e)) c.put_ue.ensures.err;
}
