use Rattle.vd_plane.proofs.Samples as samples
use Rattle.vd_plane.proofs.plane.planes_are_their_samples.Goals as goal

pub returns : goal.returns
returns c = samples.planes_are_their_samples
