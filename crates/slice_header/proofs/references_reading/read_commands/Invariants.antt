use Rattle.std.proofs.Common.{◌-◌, take}
use Rattle.slice_header.specs.Lists.{listed}
use Rattle.cb_types.specs.declared.header.ListEdit.TheVariants.{Subtract}
use Rattle.cb_types.specs.AcceptedInfo.{max_frame_num}
use Rattle.slice_header.specs.Spelling.{command}
use Rattle.slice_header.proofs.Padding.{Filled}
use Rattle.slice_header.proofs.Repeated.{Goes}
use Rattle.slice_header.proofs.references_reading.read_commands.Given as goal

abbrev pub invariant-loop-k : goal.invariant-loop-k
invariant-loop-k l = record {
  goes : Goes (listed 3 3 (command (max_frame_num l.info)) l.active) l.fn.reader (take l.k l.list) (listed 3 3 (command (max_frame_num l.info)) (l.active - l.k)) l.reader;
  filled : Filled 16 (Subtract 0) l.k l.list;
}
