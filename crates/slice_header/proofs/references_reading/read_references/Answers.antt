use Rattle.slice_header.specs.Spelling.{no_references, references}
use Rattle.element_tables.proofs.Tables.{gives_absent, gives_present}
use Rattle.slice_header.proofs.references_reading.read_references.Goals as goal

pub returns-then-not-is_present : goal.returns-then-not-is_present
returns-then-not-is_present c = rw c.no_edits.ensures (gives_absent (references c.args.info.now) no_references c.args.is_present c.args.reader.now c.if-not-is_present.true)

pub returns : goal.returns
returns c = gives_present (references c.args.info.now) no_references c.args.is_present c.args.reader.now c.read_present_references.new.reader c.read_present_references.result c.if-not-is_present.false c.read_present_references.ensures
