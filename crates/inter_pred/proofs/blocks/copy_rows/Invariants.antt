use Rattle.std.proofs.Common.{◌≡◌, ℕ, ◌+◌, ◌*◌, ◌<◌, get_or}
use Rattle.inter_pred.proofs.blocks.copy_rows.Given as goal

abbrev pub invariant-loop-row : goal.invariant-loop-row
invariant-loop-row l = (x y : ℕ) → x < l.width → y < l.row → get_or l.out (y * l.width + x) 0 ≡ get_or l.window (l.start + y * l.stride + x) 0
