use Rattle.stream_calls.proofs.ComingOut as coming
use Rattle.stream_calls.proofs.file_laws.what_is_shown_settles.Goals as goal

pub returns : goal.returns
returns c = record {
  pictures = coming.first_pictures_are_settled;
  out = coming.what_came_out_is_settled;
  grow = coming.settled_pictures_grow;
  last = coming.last_picture_is_shown;
}
