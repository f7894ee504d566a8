use Rattle.std.proofs.Common.{eq-eqb, eqb, ne_eqb}
use Rattle.element_tables.proofs.Tables.{gives_made}
use Rattle.slice_header.specs.Spelling.{dec_ref_pic_marking}
use Rattle.slice_header.proofs.Choices.{chosen, passed}
use Rattle.slice_header.proofs.marking_reading.read_marking.Goals as goal

pub returns-then-head-eq0 : goal.returns-then-head-eq0
unfolding dec_ref_pic_marking
returns-then-head-eq0 c = chosen (eqb c.args.head.ref_idc 0) _ _ _ _ _ (eq-eqb c.args.head.ref_idc 0 c.if-head-eq0.true) (gives_made _ _)

pub returns-then-head-eq5 : goal.returns-then-head-eq5
unfolding dec_ref_pic_marking
returns-then-head-eq5 c = passed (eqb c.args.head.ref_idc 0) _ _ _ _ _ (ne_eqb c.args.head.ref_idc 0 c.if-head-eq0.false) (chosen (eqb c.args.head.unit_type 5) _ _ _ _ _ (eq-eqb c.args.head.unit_type 5 c.if-head-eq5.true) c.read_idr_marking.ensures)

pub returns : goal.returns
unfolding dec_ref_pic_marking
returns c = passed (eqb c.args.head.ref_idc 0) _ _ _ _ _ (ne_eqb c.args.head.ref_idc 0 c.if-head-eq0.false) (passed (eqb c.args.head.unit_type 5) _ _ _ _ _ (ne_eqb c.args.head.unit_type 5 c.if-head-eq5.false) c.read_later_marking.ensures)
