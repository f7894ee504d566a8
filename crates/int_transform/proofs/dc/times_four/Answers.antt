use Rattle.int_transform.proofs.DcValues.{times_four_is}
use Rattle.int_transform.proofs.dc.times_four.Goals as goal

pub returns : goal.returns
returns c = times_four_is c.args.c0 c.args.c1 c.args.c2 c.args.c3 c.requires.c0 c.requires.c1 c.requires.c2 c.requires.c3
