use Rattle.std.proofs.Common.{◌≡◌, ℕ, ◌<◌, get_or}
use Rattle.inter_pred.specs.Rows.{raised_in}
use Rattle.inter_pred.proofs.rows.sum_rest.Given as goal

abbrev pub invariant-loop-k : goal.invariant-loop-k
invariant-loop-k l = (j : ℕ) → j < l.k → get_or l.sums j 0 ≡ raised_in l.samples 1 j
