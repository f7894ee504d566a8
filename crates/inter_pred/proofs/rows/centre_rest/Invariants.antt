use Rattle.std.proofs.Common.{◌≡◌, ℕ, ◌<◌, get_or}
use Rattle.inter_pred.specs.Rows.{centre_in}
use Rattle.inter_pred.proofs.rows.centre_rest.Given as goal

abbrev pub invariant-loop-k : goal.invariant-loop-k
invariant-loop-k l = (j : ℕ) → j < l.k → get_or l.out j 0 ≡ centre_in l.sums l.step j
