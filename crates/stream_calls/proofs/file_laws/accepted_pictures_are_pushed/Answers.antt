use Rattle.stream_calls.proofs.ComingOut as coming
use Rattle.stream_calls.proofs.file_laws.accepted_pictures_are_pushed.Goals as goal

pub returns : goal.returns
returns c = record {
  accepted = coming.pictures_are_accepted;
  pushed = coming.accepted_pictures_are_pushed;
  stay = coming.pushed_stay_pushed;
  numbers = coming.pictures_keep_their_numbers;
  pushes = coming.pushes_leave_the_out;
  out = coming.pictures_come_out;
}
