use Rattle.std.proofs.Common.{◌≡◌, ◌-◌, ◌<◌, None, drop, replicate, take}
use Rattle.cb_types.specs.AcceptedInfo.{max_frame_num}
use Rattle.cb_types.specs.Slices.{active_entries}
use Rattle.ref_lists.proofs.EditLemmas.{from_edit}
use Rattle.ref_lists.specs.ReferenceList.{initial_list}
use Rattle.ref_lists.proofs.list.list_for.Given as goal

abbrev pub invariant-loop-settled : goal.invariant-loop-settled
invariant-loop-settled l = record {
  below : l.predicted < max_frame_num l.info;
  size : l.list.length ≡ active_entries l.info l.header;
  beyond : drop (active_entries l.info l.header) l.list.entries ≡ replicate (16 - active_entries l.info l.header) None;
  same : from_edit l.info l.header 0 (record { predicted = l.header.frame_num; settled = 0; entries = initial_list l.info l.header })
      ≡ from_edit l.info l.header l.settled (record { predicted = l.predicted; settled = l.settled; entries = take (active_entries l.info l.header) l.list.entries });
}
