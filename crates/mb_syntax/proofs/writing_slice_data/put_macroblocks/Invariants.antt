use Rattle.std.proofs.Common.{◌≤◌, take}
use Rattle.mb_syntax.specs.Around.{AreColumns}
use Rattle.mb_syntax.specs.Progress.{AreWritten}
use Rattle.mb_syntax.proofs.writing_slice_data.put_macroblocks.Given as goal

abbrev pub invariant-loop-k : goal.invariant-loop-k
invariant-loop-k l = record {
  written : AreWritten l.slice (take l.k l.mbs) l.fn.out l.out l.run;
  counts : AreColumns l.slice (take l.k l.mbs) l.columns;
  few : l.run ≤ l.k;
}
