use Rattle.std.proofs.Common.{eq-eqb, eqb, ne_eqb, subst, sym}
use Rattle.std.proofs.lemmas.Result.{on_ok_weaker}
use Rattle.param_sets.specs.Parts.{cycle_of}
use Rattle.param_sets.specs.Sps.{cycle, no_cycle}
use Rattle.element_tables.specs.Syntax.{Appends, present}
use Rattle.param_sets.specs.declared.sps_parts.Cycle.{Cycle}
use Rattle.param_sets.proofs.SpsRanges.{cycle_is_absent}
use Rattle.element_tables.proofs.Tables.{appends_absent, appends_present}
use Rattle.param_sets.proofs.sps_writing.put_cycle.Goals as goal

pub returns-then-sps-ne1 : goal.returns-then-sps-ne1
returns-then-sps-ne1 c =
    let s = c.args.sps.now in
    let old = c.args.out.now in
    let t = c.if-sps-ne1.true in
    subst (λ (x : Cycle). Appends (present (eqb s.pic_order_cnt_type 1) cycle no_cycle) x old old) (sym (cycle_is_absent s c.requires t))
    (appends_absent cycle no_cycle (eqb s.pic_order_cnt_type 1) old (ne_eqb s.pic_order_cnt_type 1 t))

pub returns : goal.returns
returns c =
    let s = c.args.sps.now in
    on_ok_weaker c.put_present_cycle.result
    (appends_present cycle no_cycle (cycle_of s) (eqb s.pic_order_cnt_type 1) c.args.out.now c.put_present_cycle.new.out (eq-eqb s.pic_order_cnt_type 1 c.if-sps-ne1.false))
    c.put_present_cycle.ensures
