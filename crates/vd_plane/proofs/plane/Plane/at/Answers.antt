use Rattle.std.proofs.Common.{sym, subst}
use Rattle.vd_plane.proofs.Samples.{sample_read}
use Rattle.vd_plane.specs.SampleArray.{SampleArray, IsInside}
use Rattle.vd_plane.proofs.plane.Plane.at.Goals as goal

pub returns : goal.returns
returns c =
    let inside = subst (λ (a : SampleArray). IsInside a c.args.x c.args.y) (sym c.self.view_is) c.requires in
    rw (← c.self.view_is) (sample_read _ c.args.x c.args.y _ c.self.invariant inside c.index.ensures)
