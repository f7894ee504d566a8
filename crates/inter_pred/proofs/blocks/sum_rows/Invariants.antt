use Rattle.std.proofs.Common.{◌≡◌, ℕ, ◌+◌, ◌*◌, ◌<◌, get_or}
use Rattle.inter_pred.specs.Rows.{raised_in}
use Rattle.inter_pred.proofs.blocks.sum_rows.Given as goal

abbrev pub invariant-loop-row : goal.invariant-loop-row
invariant-loop-row l = (x y : ℕ) → x < l.width → y < l.row → get_or l.sums (y * l.width + x) 0 ≡ raised_in l.window 1 (y * l.stride + x)
