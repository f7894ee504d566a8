use Rattle.std.proofs.Common.{◌≡◌, ℕ, ◌+◌, ◌*◌, ◌<◌, ◌+ℤ◌, pos, get_or}
use Rattle.vd_plane.specs.SampleArray.{nearest_sample}
use Rattle.vd_plane.proofs.plane.Plane.clamped_rect.Given as goal

abbrev pub invariant-loop-row : goal.invariant-loop-row
invariant-loop-row l =
    (x' y' : ℕ) → x' < l.width → y' < l.row → get_or l.into (y' * l.width + x') 0 ≡ nearest_sample l.self (l.x +ℤ pos x') (l.y +ℤ pos y')
