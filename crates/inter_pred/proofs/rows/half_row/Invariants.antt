use Rattle.std.proofs.Common.{◌≡◌, ℕ, ◌*◌, ◌<◌, get_or}
use Rattle.inter_pred.specs.Rows.{half_in}
use Rattle.inter_pred.proofs.rows.half_row.Given as goal

abbrev pub invariant-loop-block : goal.invariant-loop-block
invariant-loop-block l = (k : ℕ) → k < 8 * l.block → get_or l.out k 0 ≡ half_in l.samples l.step k
