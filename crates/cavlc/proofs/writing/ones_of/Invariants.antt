use Rattle.std.proofs.Common.{◌≡◌, ◌+◌, ◌≤◌, drop}
use Rattle.cavlc.specs.Coefficients.{leading_ones}
use Rattle.cavlc.proofs.writing.ones_of.Given as goal

abbrev pub invariant-loop-level : goal.invariant-loop-level
invariant-loop-level l = record {
  counted : leading_ones l.levels ≡ l.ones + leading_ones (drop l.level-index l.levels);
  few : l.ones ≤ 3;
}
