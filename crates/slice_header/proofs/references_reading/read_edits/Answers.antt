use Rattle.slice_header.specs.Spelling.{edits, no_edits}
use Rattle.cb_types.specs.AcceptedInfo.{max_frame_num}
use Rattle.element_tables.proofs.Tables.{gives_absent, gives_present}
use Rattle.slice_header.proofs.references_reading.read_edits.Goals as goal

pub returns-then-not-is_present : goal.returns-then-not-is_present
returns-then-not-is_present c = rw c.no_edits.ensures (gives_absent (edits (max_frame_num c.args.info.now) c.args.active) no_edits c.args.is_present c.args.reader.now c.if-not-is_present.true)

pub returns : goal.returns
returns c = gives_present (edits (max_frame_num c.args.info.now) c.args.active) no_edits c.args.is_present c.args.reader.now c.read_commands.new.reader c.read_commands.result c.if-not-is_present.false c.read_commands.ensures
