use Rattle.std.proofs.Common.{◌++◌, length, take, drop, ap, refl, rules}
use Rattle.vd_plane.specs.SampleArray.{array_of}
use Rattle.vd_plane.proofs.plane.Plane.samples_mut.Goals as goal

pub returns : goal.returns
returns c =
    let v = c.self.inside.samples in
    ((refl, λ w. rw (← c.self.view_is) (ap (λ n. array_of c.self.inside.width c.self.inside.height (take n (w ++ drop (length w) v.items))) v.ok.0)), search rules)
