use Rattle.std.proofs.Common.{◌≡◌, ℕ, ◌+◌, ◌*◌, ◌<◌, get_or}
use Rattle.inter_pred.specs.Rows.{centre_in}
use Rattle.inter_pred.proofs.blocks.centre_rows.Given as goal

abbrev pub invariant-loop-row : goal.invariant-loop-row
invariant-loop-row l = (x y : ℕ) → x < l.width → y < l.row → get_or l.out (y * l.width + x) 0 ≡ centre_in l.sums l.width (y * l.width + x)
