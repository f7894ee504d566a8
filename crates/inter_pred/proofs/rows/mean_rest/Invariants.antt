use Rattle.std.proofs.Common.{◌≡◌, ℕ, ◌<◌, ◌≤◌, get_or}
use Rattle.inter_pred.specs.Luma.{mean}
use Rattle.inter_pred.proofs.rows.mean_rest.Given as goal

abbrev pub invariant-loop-k : goal.invariant-loop-k
invariant-loop-k l = ((j : ℕ) → l.first ≤ j → j < l.k → get_or l.out j 0 ≡ mean (get_or l.initial.out j 0) (get_or l.samples j 0)) × ((j : ℕ) → j < l.first → get_or l.out j 0 ≡ get_or l.initial.out j 0) × ((j : ℕ) → l.k ≤ j → get_or l.out j 0 ≡ get_or l.initial.out j 0)
