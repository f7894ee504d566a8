use Rattle.std.proofs.Common.{◌≡◌, ◌≤◌, ◌++◌, take}
use Rattle.cavlc.proofs.LevelLemmas.{further_bits, level_behind}
use Rattle.cavlc.proofs.levels.put_further.Given as goal

abbrev pub invariant-loop-level : goal.invariant-loop-level
invariant-loop-level l = record {
  written : l.out ≡ l.initial.out ++ further_bits l.initial.state (take l.level-index l.levels);
  behind : l.state ≡ level_behind l.initial.state (take l.level-index l.levels);
  few : l.state.suffix_length ≤ 6;
  least : l.state.least ≤ 2;
}
