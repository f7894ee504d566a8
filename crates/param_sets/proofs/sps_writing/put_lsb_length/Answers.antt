use Rattle.std.proofs.Common.{arith, eq-eqb, eqb, ne_eqb, subst, sym, ℕ}
use Rattle.std.proofs.lemmas.Result.{on_ok_weaker}
use Rattle.element_tables.specs.Syntax.{Appends, present, ue, up_to}
use Rattle.element_tables.proofs.OneElement.{ue_appended}
use Rattle.element_tables.proofs.Rules.{up_to_is}
use Rattle.element_tables.proofs.Tables.{appends_absent, appends_present}
use Rattle.param_sets.proofs.sps_writing.put_lsb_length.Goals as goal

pub returns-then-sps-ne0 : goal.returns-then-sps-ne0
returns-then-sps-ne0 c =
    let s = c.args.sps.now in
    let old = c.args.out.now in
    let t = c.if-sps-ne0.true in
    subst (λ (n : ℕ). Appends (present (eqb s.pic_order_cnt_type 0) (ue (up_to 12)) 0) n old old) (sym (c.requires.lsb_absent t))
    (appends_absent (ue (up_to 12)) 0 (eqb s.pic_order_cnt_type 0) old (ne_eqb s.pic_order_cnt_type 0 t))

pub returns : goal.returns
returns c =
    let s = c.args.sps.now in
    let lsb = s.log2_max_pic_order_cnt_lsb_minus4 in
    let old = c.args.out.now in
    let new = c.put_ue.new.self in
    let most = c.requires.log2_max_pic_order_cnt_lsb_minus4 in
    on_ok_weaker c.put_ue.result
    (λ e. appends_present (ue (up_to 12)) 0 lsb (eqb s.pic_order_cnt_type 0) old new (eq-eqb s.pic_order_cnt_type 0 c.if-sps-ne0.false)
    (ue_appended (up_to 12) lsb old new (omega (arith, most)) (up_to_is lsb 12 most) e))
    c.put_ue.ensures.ok
