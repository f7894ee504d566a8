use Rattle.std.proofs.Common.{◌≡◌, ◌+◌, ◌≤◌, drop, length}
use Rattle.cavlc.specs.Coefficients.{nonzero}
use Rattle.mb_syntax.proofs.writing_residual.count_levels.Given as goal

abbrev pub invariant-loop-level : goal.invariant-loop-level
invariant-loop-level l = record {
  counted : length (nonzero l.block) ≡ l.total + length (nonzero (drop l.level-index l.block));
  few : l.total ≤ l.level-index;
}
