use Rattle.element_tables.specs.Syntax.{ue, up_to}
use Rattle.element_tables.proofs.Tables.{gives_absent, gives_present}
use Rattle.slice_header.proofs.numbers_reading.read_filter_idc.Goals as goal

pub returns-then-not-is_present : goal.returns-then-not-is_present
returns-then-not-is_present c = (gives_absent (ue (up_to 2)) 0 c.args.is_present c.args.reader.now c.if-not-is_present.true)

pub returns : goal.returns
returns c = gives_present (ue (up_to 2)) 0 c.args.is_present c.args.reader.now c.read_ue_up_to.new.reader c.read_ue_up_to.result c.if-not-is_present.false c.read_ue_up_to.ensures
