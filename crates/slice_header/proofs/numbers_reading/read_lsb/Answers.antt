use Rattle.std.proofs.Common.{◌+◌, eq-eqb, eqb, ne_eqb}
use Rattle.element_tables.specs.Syntax.{any, u}
use Rattle.element_tables.proofs.Tables.{gives_absent, gives_present}
use Rattle.slice_header.proofs.numbers_reading.read_lsb.Goals as goal

pub returns-then-info-ne0 : goal.returns-then-info-ne0
returns-then-info-ne0 c = (gives_absent (u (c.args.info.now.log2_max_pic_order_cnt_lsb_minus4 + 4) any) 0 (eqb c.args.info.now.pic_order_cnt_type 0) c.args.reader.now (ne_eqb c.args.info.now.pic_order_cnt_type 0 c.if-info-ne0.true))

pub returns : goal.returns
returns c = gives_present (u (c.args.info.now.log2_max_pic_order_cnt_lsb_minus4 + 4) any) 0 (eqb c.args.info.now.pic_order_cnt_type 0) c.args.reader.now c.read_u.new.reader c.read_u.result (eq-eqb c.args.info.now.pic_order_cnt_type 0 c.if-info-ne0.false) (rw c.from.ensures at c.read_u.ensures)
