use Rattle.slice_header.specs.Spelling.{operations}
use Rattle.cb_types.specs.declared.header.Marking.TheVariants.{Sliding}
use Rattle.element_tables.proofs.Tables.{gives_absent, gives_present}
use Rattle.slice_header.proofs.marking_reading.read_adaptive_marking.Goals as goal

pub returns-then-not-is_present : goal.returns-then-not-is_present
returns-then-not-is_present c = (gives_absent operations Sliding c.args.is_present c.args.reader.now c.if-not-is_present.true)

pub returns : goal.returns
returns c = gives_present operations Sliding c.args.is_present c.args.reader.now c.read_operations.new.reader c.read_operations.result c.if-not-is_present.false c.read_operations.ensures
