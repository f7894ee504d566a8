use Rattle.picture_buffer.proofs.HandleKept as kept
use Rattle.picture_buffer.proofs.HandleRenders as renders
use Rattle.picture_buffer.proofs.laws.pictures_are_found_by_handles.Goals as goal

pub returns : goal.returns
returns c = record {
  found = renders.renders_find_pictures;
  kept = kept.steps_leave_pictures;
  items = kept.items_leave_pictures;
}
