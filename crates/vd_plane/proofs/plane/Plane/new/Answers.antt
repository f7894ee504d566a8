use Rattle.std.proofs.Common.{◌≡◌, ◌*◌, replicate, rules}
use Rattle.vd_plane.proofs.Samples.{sample-filled}
use Rattle.vd_plane.proofs.plane.Plane.new.Goals as goal

pub returns-clause-samples : goal.returns-clause-samples
returns-clause-samples c =
    let copies : c.in_ok-samples.samples.items ≡ replicate (c.args.width * c.args.height) c.args.value = search rules in
    λ x y inside. sample-filled c.args.width c.args.height c.args.value x y c.in_ok-samples.samples.items copies inside
