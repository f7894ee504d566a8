use Rattle.std.proofs.Common.{◌≡◌, ℕ, ◌*◌, ◌<◌, ◌≤◌, get_or}
use Rattle.inter_pred.specs.Luma.{mean}
use Rattle.inter_pred.proofs.rows.mean_row.Given as goal

abbrev pub invariant-loop-block : goal.invariant-loop-block
invariant-loop-block l = ((k : ℕ) → k < 8 * l.block → get_or l.out k 0 ≡ mean (get_or l.initial.out k 0) (get_or l.samples k 0)) × ((k : ℕ) → 8 * l.block ≤ k → get_or l.out k 0 ≡ get_or l.initial.out k 0)
