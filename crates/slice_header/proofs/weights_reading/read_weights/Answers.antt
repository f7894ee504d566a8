use Rattle.slice_header.specs.Spelling.{no_weights, pred_weight_table}
use Rattle.element_tables.proofs.Tables.{gives_absent, gives_present}
use Rattle.slice_header.proofs.weights_reading.read_weights.Goals as goal

pub returns-then-not-is_present : goal.returns-then-not-is_present
returns-then-not-is_present c = (gives_absent (pred_weight_table c.args.active) no_weights c.args.is_present c.args.reader.now c.if-not-is_present.true)

pub returns : goal.returns
returns c = gives_present (pred_weight_table c.args.active) no_weights c.args.is_present c.args.reader.now c.read_table.new.reader c.read_table.result c.if-not-is_present.false c.read_table.ensures
