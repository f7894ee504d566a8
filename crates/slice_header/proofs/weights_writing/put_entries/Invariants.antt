use Rattle.std.proofs.Common.{◌-◌, drop}
use Rattle.element_tables.specs.Syntax.{times}
use Rattle.slice_header.specs.Spelling.{entry_weights}
use Rattle.slice_header.proofs.Written.{Puts}
use Rattle.slice_header.proofs.weights_writing.put_entries.Given as goal

abbrev pub invariant-loop-entry : goal.invariant-loop-entry
invariant-loop-entry l = Puts (times l.active entry_weights) l.entry-items l.fn.out (times (l.active - l.entry-index) entry_weights) (drop l.entry-index l.entry-items) l.out
