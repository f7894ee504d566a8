use Rattle.std.proofs.Common.{◌≡◌, ℕ, ◌*◌, ◌<◌, get_or}
use Rattle.inter_pred.specs.Rows.{raised_in}
use Rattle.inter_pred.proofs.rows.sum_row.Given as goal

abbrev pub invariant-loop-block : goal.invariant-loop-block
invariant-loop-block l = (k : ℕ) → k < 8 * l.block → get_or l.sums k 0 ≡ raised_in l.samples 1 k
