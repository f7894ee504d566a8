use Rattle.std.proofs.Common.{◌≡◌, ◌+◌, ◌-◌, ◌*◌, arith, refl}
use Rattle.vd_plane.specs.SampleArray.{row, sample}
use Rattle.vd_plane.proofs.plane.Plane.row.Goals as goal

pub returns-clause-row : goal.returns-clause-row
unfolding row
returns-clause-row c =
    let w = c.self.inside.width in
    let start = c.args.y * w in
    let width : start + w - start ≡ w = omega arith in
    rw (← c.self.view_is, c.deref.ensures.value, width) refl

pub returns-clause-samples : goal.returns-clause-samples
unfolding row sample
returns-clause-samples c =
    let w = c.self.inside.width in
    let start = c.args.y * w in
    let width : start + w - start ≡ w = omega arith in
    λ x. rw (← c.self.view_is, c.deref.ensures.value, width) refl
