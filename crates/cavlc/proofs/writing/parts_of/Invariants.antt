use Rattle.std.proofs.Common.{◌≡◌, ◌+◌, ◌≤◌, ◌++◌, drop, length, reverse, sum}
use Rattle.cavlc.specs.Coefficients.{gaps, nonzero}
use Rattle.cavlc.proofs.writing.parts_of.Given as goal

abbrev pub invariant-loop-i : goal.invariant-loop-i
invariant-loop-i l = record {
  long_levels : length l.levels ≡ 16;
  long_runs : length l.runs ≡ 16;
  low : 16 ≤ l.first + l.i;
  high : l.first ≤ 16;
  room : l.zeros + l.run ≤ l.i;
  same_levels : reverse (nonzero l.block) ≡ reverse (nonzero (drop l.i l.block)) ++ drop l.first l.levels;
  same_runs : reverse (gaps 0 l.block) ≡ reverse (gaps l.run (drop l.i l.block)) ++ drop l.first l.runs;
  same_zeros : sum (gaps 0 l.block) ≡ l.zeros + sum (gaps l.run (drop l.i l.block));
}
