use Rattle.element_tables.proofs.OneElement.{se_given}
use Rattle.element_tables.proofs.elements.read_se.Goals as goal

pub returns : goal.returns
returns c = rw c.ok_or.ensures.value (se_given c.args.reader.now c.read_se.new.self c.read_se.result c.read_se.ensures.reads)
