use Rattle.std.proofs.Common.{sym, subst}
use Rattle.vd_plane.proofs.Samples.{sample-set}
use Rattle.vd_plane.specs.SampleArray.{SampleArray, IsInside}
use Rattle.vd_plane.proofs.plane.Plane.set.Goals as goal

pub returns-clause-samples : goal.returns-clause-samples
returns-clause-samples c =
    let inside = subst (λ (a : SampleArray). IsInside a c.args.x c.args.y) (sym c.self.view_is) c.requires in
    λ x' y'. rw (← c.self.view_is) (sample-set _ c.args.x c.args.y c.args.value x' y' c.self.invariant inside)
