use Rattle.std.proofs.Common.{◌≡◌, ℕ, ◌<◌, get_or}
use Rattle.inter_pred.specs.Rows.{half_in}
use Rattle.inter_pred.proofs.rows.half_rest.Given as goal

abbrev pub invariant-loop-k : goal.invariant-loop-k
invariant-loop-k l = (j : ℕ) → j < l.k → get_or l.out j 0 ≡ half_in l.samples l.step j
