use Rattle.std.proofs.Common.{◌≡◌, ◌++◌, map, take}
use Rattle.cavlc.specs.Levels.{sign}
use Rattle.cavlc.proofs.levels.put_signs.Given as goal

abbrev pub invariant-loop-level : goal.invariant-loop-level
invariant-loop-level l = l.out ≡ l.initial.out ++ map sign (take l.level-index l.ones)
