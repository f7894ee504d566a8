use Rattle.std.proofs.Common.{eq-eqb, eqb, false, ne_eqb, refl, subst, sym, ◌≡◌}
use Rattle.std.proofs.lemmas.Result.{on_ok_weaker}
use Rattle.cb_types.specs.declared.header.Marking.{Marking}
use Rattle.cb_types.specs.declared.header.Marking.TheVariants.{Idr, Operations, Sliding}
use Rattle.element_tables.specs.Syntax.{Appends, any}
use Rattle.element_tables.proofs.OneElement.{flag_appended}
use Rattle.element_tables.proofs.Tables.{appends_absent, appends_made, appends_then}
use Rattle.slice_header.specs.Spelling.{dec_ref_pic_marking, later_marking, operations}
use Rattle.slice_header.specs.Headers.{IsMarkingOf, marking_as_read}
use Rattle.slice_header.proofs.Written.{appends_chosen, appends_passed}
use Rattle.slice_header.proofs.marking_writing.put_marking.Goals as goal

pub returns-in-Absent-clause-ok : goal.returns-in-Absent-clause-ok
unfolding dec_ref_pic_marking
returns-in-Absent-clause-ok c =
    let head = c.args.header.now.head in
    let is : head.ref_idc ≡ 0 = subst (IsMarkingOf head) c.in-Absent.is c.requires in
    subst (λ (x : Marking). Appends (dec_ref_pic_marking head) (marking_as_read x) c.args.out.now c.args.out.now) (sym c.in-Absent.is)
    (appends_chosen (eqb head.ref_idc 0) _ _ _ _ _ (eq-eqb head.ref_idc 0 is) (appends_made _ _))

pub returns-in-Idr-clause-ok : goal.returns-in-Idr-clause-ok
unfolding dec_ref_pic_marking later_marking
returns-in-Idr-clause-ok c =
    let head = c.args.header.now.head in
    let is : IsMarkingOf head (Idr c.in-Idr.no_output c.in-Idr.long_term) = subst (IsMarkingOf head) c.in-Idr.is c.requires in
    on_ok_weaker c.put_idr_marking.result (λ e. subst (λ (x : Marking). Appends (dec_ref_pic_marking head) (marking_as_read x) c.args.out.now c.put_idr_marking.new.out) (sym c.in-Idr.is)
    (appends_passed (eqb head.ref_idc 0) _ _ _ _ _ (ne_eqb head.ref_idc 0 is.0) (appends_chosen (eqb head.unit_type 5) _ _ _ _ _ is.1 e))) c.put_idr_marking.ensures.ok

pub returns-in-Sliding-clause-ok : goal.returns-in-Sliding-clause-ok
unfolding dec_ref_pic_marking later_marking
returns-in-Sliding-clause-ok c =
    let head = c.args.header.now.head in
    let is : IsMarkingOf head (Sliding) = subst (IsMarkingOf head) c.in-Sliding.is c.requires in
    on_ok_weaker c.put_flag.result (λ e. subst (λ (x : Marking). Appends (dec_ref_pic_marking head) (marking_as_read x) c.args.out.now c.put_flag.new.out) (sym c.in-Sliding.is)
    (appends_passed (eqb head.ref_idc 0) _ _ _ _ _ (ne_eqb head.ref_idc 0 is.0) (appends_passed (eqb head.unit_type 5) _ _ _ _ _ is.1 (appends_then _ (flag_appended any false _ _ refl e) (appends_absent operations Sliding false _ refl))))) c.put_flag.ensures.ok

pub returns-in-Operations-clause-ok : goal.returns-in-Operations-clause-ok
unfolding dec_ref_pic_marking later_marking
returns-in-Operations-clause-ok c =
    let head = c.args.header.now.head in
    let is : IsMarkingOf head (Operations c.in-Operations.count c.in-Operations.list) = subst (IsMarkingOf head) c.in-Operations.is c.requires in
    on_ok_weaker c.put_adaptive_marking.result (λ e. subst (λ (x : Marking). Appends (dec_ref_pic_marking head) (marking_as_read x) c.args.out.now c.put_adaptive_marking.new.out) (sym c.in-Operations.is)
    (appends_passed (eqb head.ref_idc 0) _ _ _ _ _ (ne_eqb head.ref_idc 0 is.0) (appends_passed (eqb head.unit_type 5) _ _ _ _ _ is.1 e))) c.put_adaptive_marking.ensures.ok
