use Rattle.std.proofs.Common.{Some, None}
use Rattle.element_tables.proofs.OneElement.{u_given}
use Rattle.element_tables.proofs.elements.read_byte.Goals as goal

pub returns-in-Some : goal.returns-in-Some
returns-in-Some c = u_given 8 c.args.reader.now c.read_u.new.self (Some c.in-Some.byte) c.in-Some.ensures.reads

pub returns-in-None : goal.returns-in-None
returns-in-None c = u_given 8 c.args.reader.now c.read_u.new.self None c.in-None.ensures.reads
