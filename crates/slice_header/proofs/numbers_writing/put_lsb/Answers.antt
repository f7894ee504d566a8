use Rattle.std.proofs.Common.{subst, sym}
use Rattle.std.proofs.lemmas.Result.{on_err_weaker, on_ok_weaker}
use Rattle.element_tables.specs.Syntax.{Appends, present}
use Rattle.element_tables.proofs.Tables.{appends_absent, appends_present}
use Rattle.slice_header.proofs.Written.{extends_same}
use Rattle.std.proofs.Common.{eq-eqb, eqb, ne_eqb, refl, ◌+◌}
use Rattle.element_tables.specs.Syntax.{any, u}
use Rattle.element_tables.proofs.OneElement.{u_appended}
use Rattle.slice_header.proofs.numbers_writing.put_lsb.Goals as goal

pub returns-then-info-ne0 : goal.returns-then-info-ne0
returns-then-info-ne0 c = record {
  ok = subst (λ x. Appends (present (eqb c.args.info.now.pic_order_cnt_type 0) (u (c.args.info.now.log2_max_pic_order_cnt_lsb_minus4 + 4) any) 0) x c.args.out.now c.args.out.now) (sym (c.requires.header.poc_lsb_absent (ne_eqb c.args.info.now.pic_order_cnt_type 0 c.if-info-ne0.true))) (appends_absent (u (c.args.info.now.log2_max_pic_order_cnt_lsb_minus4 + 4) any) 0 (eqb c.args.info.now.pic_order_cnt_type 0) c.args.out.now (ne_eqb c.args.info.now.pic_order_cnt_type 0 c.if-info-ne0.true));
  err = tt;
}

pub returns : goal.returns
returns c = record {
  ok = on_ok_weaker c.put_u.result (λ e. appends_present (u (c.args.info.now.log2_max_pic_order_cnt_lsb_minus4 + 4) any) 0 c.args.header.now.poc_lsb (eqb c.args.info.now.pic_order_cnt_type 0) _ _ (eq-eqb c.args.info.now.pic_order_cnt_type 0 c.if-info-ne0.false) (u_appended _ any c.args.header.now.poc_lsb _ _ c.requires.header.poc_lsb refl (rw c.from.ensures at e))) c.put_u.ensures.ok;
  err = on_err_weaker c.put_u.result (λ e. (extends_same e)) c.put_u.ensures.err;
}
