use Rattle.stream_calls.proofs.ComingOut as coming
use Rattle.stream_calls.proofs.file_laws.pictures_come_out_first.Goals as goal

pub returns : goal.returns
returns c = record {
  first = coming.what_came_out_is_first;
  these = coming.what_came_out_is_first_of_these;
  all = coming.all_come_out;
}
