use Rattle.element_tables.proofs.OneElement.{u_given}
use Rattle.element_tables.proofs.elements.read_u.Goals as goal

pub returns : goal.returns
returns c = rw c.ok_or.ensures.value (u_given c.args.n c.args.reader.now c.read_u.new.self c.read_u.result c.read_u.ensures.reads)
