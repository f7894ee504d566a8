use Rattle.std.proofs.Common.{pos}
use Rattle.element_tables.specs.Syntax.{any, se}
use Rattle.element_tables.proofs.Tables.{gives_absent, gives_present}
use Rattle.slice_header.proofs.numbers_reading.read_delta.Goals as goal

pub returns-then-not-is_present : goal.returns-then-not-is_present
returns-then-not-is_present c = (gives_absent (se any) (pos 0) c.args.is_present c.args.reader.now c.if-not-is_present.true)

pub returns : goal.returns
returns c = gives_present (se any) (pos 0) c.args.is_present c.args.reader.now c.read_se.new.reader c.read_se.result c.if-not-is_present.false c.read_se.ensures
