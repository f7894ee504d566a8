use Rattle.cb_types.proofs.NeighbourLemmas.{a_lies, b_lies, c_lies, d_lies}
use Rattle.cb_types.proofs.laws.neighbours_stand_beside.Goals as goal

pub returns-clause-a : goal.returns-clause-a
returns-clause-a c = a_lies c.args.width c.args.mb c.requires

pub returns-clause-b : goal.returns-clause-b
returns-clause-b c = b_lies c.args.width c.args.mb c.requires

pub returns-clause-c : goal.returns-clause-c
returns-clause-c c = c_lies c.args.width c.args.mb c.requires

pub returns-clause-d : goal.returns-clause-d
returns-clause-d c = d_lies c.args.width c.args.mb c.requires
