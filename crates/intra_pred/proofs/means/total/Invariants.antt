use Rattle.std.proofs.Common.{◌≡◌, ◌*◌, ◌≤◌, sum, take}
use Rattle.intra_pred.proofs.means.total.Given as goal

abbrev pub invariant-loop-sample : goal.invariant-loop-sample
invariant-loop-sample l = (l.total ≡ sum (take l.sample-index l.side)) × (l.total ≤ 255 * l.sample-index)
