use Rattle.std.proofs.Common.{◌≡◌, ◌*◌, pos, ◌+ℤ◌, ◌≤ℤ◌, neg_ℤ, drop}
use Rattle.marking.specs.OrderCounts.{total}
use Rattle.marking.proofs.cycles.total.Given as goal

abbrev pub invariant-loop-offset : goal.invariant-loop-offset
invariant-loop-offset l = record {
  value : l.sum +ℤ total (drop l.offset-index l.offsets) ≡ total l.offsets;
  least : neg_ℤ (pos (2147483648 * l.offset-index)) ≤ℤ l.sum;
  most : l.sum ≤ℤ pos (2147483648 * l.offset-index);
}
