use Rattle.picture_buffer.proofs.HandleDecoders as decoders
use Rattle.picture_buffer.proofs.HandleSurfaces as surfaces
use Rattle.picture_buffer.proofs.laws.surfaces_are_kept.Goals as goal

pub returns : goal.returns
returns c = record {
  surfaces = surfaces.items_leave_surfaces;
  decoders = decoders.items_leave_decoders;
  awake = decoders.items_leave_awake;
}
