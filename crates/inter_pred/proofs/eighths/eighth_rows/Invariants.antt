use Rattle.std.proofs.Common.{◌≡◌, ℕ, ◌+◌, ◌*◌, ◌<◌, get_or}
use Rattle.inter_pred.specs.Chroma.{eighth}
use Rattle.inter_pred.proofs.eighths.eighth_rows.Given as goal

abbrev pub invariant-loop-row : goal.invariant-loop-row
invariant-loop-row l = (x y : ℕ) → x < l.width → y < l.row → let k = y * l.stride + x in get_or l.out (y * l.width + x) 0 ≡ eighth l.eighths.right l.eighths.below (get_or l.window k 0) (get_or l.window (k + 1) 0) (get_or l.window (k + l.stride) 0) (get_or l.window (k + l.stride + 1) 0)
