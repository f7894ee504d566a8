use Rattle.std.proofs.Common.{take}
use Rattle.element_tables.specs.Syntax.{Appends, any, se, times}
use Rattle.param_sets.proofs.sps_writing.put_offsets.Given as goal

abbrev pub invariant-loop-offset : goal.invariant-loop-offset
invariant-loop-offset l = Appends (times l.offset-index (se any)) (take l.offset-index l.offset-items) l.fn.out l.out
