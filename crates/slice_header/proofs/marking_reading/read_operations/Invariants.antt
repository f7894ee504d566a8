use Rattle.std.proofs.Common.{◌-◌, take}
use Rattle.slice_header.specs.Lists.{listed}
use Rattle.cb_types.specs.declared.header.Mmco.TheVariants.{Reset}
use Rattle.slice_header.specs.Spelling.{operation}
use Rattle.slice_header.proofs.Padding.{Filled}
use Rattle.slice_header.proofs.Repeated.{Goes}
use Rattle.slice_header.proofs.marking_reading.read_operations.Given as goal

abbrev pub invariant-loop-k : goal.invariant-loop-k
invariant-loop-k l = record {
  goes : Goes (listed 6 0 operation 64) l.fn.reader (take l.k l.list) (listed 6 0 operation (64 - l.k)) l.reader;
  filled : Filled 64 Reset l.k l.list;
}
