use Rattle.element_tables.proofs.OneElement.{ue_given}
use Rattle.element_tables.proofs.elements.read_ue.Goals as goal

pub returns : goal.returns
returns c = rw c.ok_or.ensures.value (ue_given c.args.reader.now c.read_ue.new.self c.read_ue.result c.read_ue.ensures.reads)
