use Rattle.std.proofs.Common.{◌≡◌, ℕ, ◌+◌, ◌-◌, ◌*◌, ◌^◌, ◌<◌, pos, neg_ℤ, ◌≤ℤ◌, get_or}
use Rattle.intra_pred.specs.Plane.{plane_at, step, value_at}
use Rattle.intra_pred.specs.Sides.{sample_in}
use Rattle.intra_pred.proofs.plane.put_plane.Given as goal

abbrev pub invariant-loop-y : goal.invariant-loop-y
invariant-loop-y l =
    (l.first ≡ value_at l.half (pos (16 * (get_or l.left (2 * l.half - 1) 0 + get_or l.top (2 * l.half - 1) 0))) (step l.half l.factor l.top l.corner) (step l.half l.factor l.left l.corner) 0 l.y)
    × (neg_ℤ (pos (2 ^ 18 + 2 ^ 14 * l.y)) ≤ℤ l.first)
    × (l.first ≤ℤ pos (2 ^ 18 + 2 ^ 14 * l.y))
    × ((x y : ℕ) → x < 2 * l.half → y < l.y → sample_in (2 * l.half) l.block x y ≡ plane_at l.half l.factor l.left l.top l.corner x y)
