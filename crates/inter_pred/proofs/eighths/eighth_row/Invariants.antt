use Rattle.std.proofs.Common.{◌≡◌, ℕ, ◌*◌, ◌<◌, get_or}
use Rattle.inter_pred.specs.Rows.{eighth_in}
use Rattle.inter_pred.proofs.eighths.eighth_row.Given as goal

abbrev pub invariant-loop-block : goal.invariant-loop-block
invariant-loop-block l = (k : ℕ) → k < 8 * l.block → get_or l.out k 0 ≡ eighth_in l.eighths.right l.eighths.below l.above l.below k
