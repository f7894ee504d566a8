use Rattle.std.proofs.Common.{◌≡◌, ◌≤◌, ◌++◌, drop, length, take}
use Rattle.cavlc.proofs.LevelLemmas.{HaveCodes, further_bits, level_behind}
use Rattle.cavlc.specs.Levels.{first_level}
use Rattle.cavlc.proofs.levels.read_levels.Given as goal

abbrev pub invariant-loop-i : goal.invariant-loop-i
invariant-loop-i l = record {
  size : length l.levels ≡ 16;
  front : take l.ones l.levels ≡ take l.ones l.initial.levels;
  codes : HaveCodes (first_level l.total l.ones) (drop l.ones (take l.i l.levels));
  behind : l.state ≡ level_behind (first_level l.total l.ones) (drop l.ones (take l.i l.levels));
  read : l.initial.reader ≡ further_bits (first_level l.total l.ones) (drop l.ones (take l.i l.levels)) ++ l.reader;
  few : l.state.suffix_length ≤ 6;
  least : l.state.least ≤ 2;
}
