use Rattle.std.proofs.Common.{◌-◌, drop}
use Rattle.slice_header.specs.Lists.{listed}
use Rattle.slice_header.specs.Spelling.{operation}
use Rattle.slice_header.proofs.Written.{Puts}
use Rattle.slice_header.proofs.marking_writing.put_operations.Given as goal

abbrev pub invariant-loop-operation : goal.invariant-loop-operation
invariant-loop-operation l = Puts (listed 6 0 operation 64) l.operation-items l.fn.out (listed 6 0 operation (64 - l.operation-index)) (drop l.operation-index l.operation-items) l.out
