use Rattle.std.proofs.Common.{◌≡◌, ◌*◌, pos, neg_ℤ, ◌≤ℤ◌}
use Rattle.intra_pred.specs.Plane.{sum_to, weighted_at}
use Rattle.intra_pred.proofs.plane.steepness.Given as goal

abbrev pub invariant-loop-k : goal.invariant-loop-k
invariant-loop-k l = (l.sum ≡ sum_to l.k (weighted_at l.half l.side l.corner)) × (neg_ℤ (pos (2040 * l.k)) ≤ℤ l.sum) × (l.sum ≤ℤ pos (2040 * l.k))
