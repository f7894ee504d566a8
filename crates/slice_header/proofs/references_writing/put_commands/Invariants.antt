use Rattle.std.proofs.Common.{◌-◌, drop}
use Rattle.cb_types.specs.AcceptedInfo.{max_frame_num}
use Rattle.cb_types.specs.Slices.{active_entries}
use Rattle.slice_header.specs.Lists.{listed}
use Rattle.slice_header.specs.Spelling.{command}
use Rattle.slice_header.proofs.Written.{Puts}
use Rattle.slice_header.proofs.references_writing.put_commands.Given as goal

abbrev pub invariant-loop-edit : goal.invariant-loop-edit
invariant-loop-edit l = Puts (listed 3 3 (command (max_frame_num l.info)) (active_entries l.info l.header)) l.edit-items l.fn.out (listed 3 3 (command (max_frame_num l.info)) ((active_entries l.info l.header) - l.edit-index)) (drop l.edit-index l.edit-items) l.out
