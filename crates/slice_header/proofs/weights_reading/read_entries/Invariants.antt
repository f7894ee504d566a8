use Rattle.std.proofs.Common.{◌-◌, take}
use Rattle.element_tables.specs.Syntax.{times}
use Rattle.slice_header.specs.Spelling.{entry_weights, no_entry}
use Rattle.slice_header.proofs.Padding.{Filled}
use Rattle.slice_header.proofs.Repeated.{Goes}
use Rattle.slice_header.proofs.weights_reading.read_entries.Given as goal

abbrev pub invariant-loop-k : goal.invariant-loop-k
invariant-loop-k l = record {
  goes : Goes (times l.active entry_weights) l.fn.reader (take l.k l.entries) (times (l.active - l.k) entry_weights) l.reader;
  filled : Filled 16 no_entry l.k l.entries;
}
