use Rattle.stream_calls.proofs.OthersLead as lead
use Rattle.stream_calls.proofs.OthersFound as found
use Rattle.stream_calls.proofs.others_laws.others_leave_what_is_the_streams.Goals as goal

pub returns : goal.returns
returns c = record {
  names = lead.others_add_no_names;
  objects = lead.others_leave_objects;
  found = found.others_leave_names;
  idle = lead.others_leave_idle;
  home = lead.others_leave_home;
}
