use Rattle.std.proofs.Common.{◌≡◌, ◌++◌, take}
use Rattle.cavlc.proofs.RunLemmas.{runs_bits}
use Rattle.cavlc.specs.Blocks.{left_behind}
use Rattle.cavlc.specs.Turns.{state_behind}
use Rattle.cavlc.proofs.writing.put_runs.Given as goal

abbrev pub invariant-loop-run : goal.invariant-loop-run
invariant-loop-run l = record {
  written : l.out ≡ l.initial.out ++ runs_bits l.zeros (take l.run-index l.runs);
  behind : l.left ≡ state_behind left_behind l.zeros (take l.run-index l.runs);
}
