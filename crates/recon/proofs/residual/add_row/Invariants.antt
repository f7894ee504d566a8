use Rattle.std.proofs.Common.{◌≡◌, ℕ, ◌<◌, ◌≤◌, get_or}
use Rattle.int_transform.specs.Scan.{value_at}
use Rattle.recon.specs.Residuals.{constructed}
use Rattle.recon.proofs.residual.add_row.Given as goal

abbrev pub invariant-loop-k : goal.invariant-loop-k
invariant-loop-k l = record {
  done : (k : ℕ) → k < l.k → get_or l.samples k 0 ≡ constructed (get_or l.initial.samples k 0) (value_at l.values k);
  others : (k : ℕ) → l.k ≤ k → get_or l.samples k 0 ≡ get_or l.initial.samples k 0;
}
