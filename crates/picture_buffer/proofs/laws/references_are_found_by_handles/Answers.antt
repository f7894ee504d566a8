use Rattle.picture_buffer.proofs.HandleSurfaces as surfaces
use Rattle.picture_buffer.proofs.laws.references_are_found_by_handles.Goals as goal

pub returns : goal.returns
returns c = surfaces.renders_find_references
