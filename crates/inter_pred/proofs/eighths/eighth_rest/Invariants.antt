use Rattle.std.proofs.Common.{◌≡◌, ℕ, ◌+◌, ◌<◌, get_or}
use Rattle.inter_pred.specs.Chroma.{eighth}
use Rattle.inter_pred.proofs.eighths.eighth_rest.Given as goal

abbrev pub invariant-loop-k : goal.invariant-loop-k
invariant-loop-k l = (j : ℕ) → j < l.k → get_or l.out j 0 ≡ eighth l.eighths.right l.eighths.below (get_or l.above j 0) (get_or l.above (j + 1) 0) (get_or l.below j 0) (get_or l.below (j + 1) 0)
