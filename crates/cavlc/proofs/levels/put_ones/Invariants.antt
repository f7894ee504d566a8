use Rattle.std.proofs.Common.{◌≡◌, ◌-◌, ◌++◌, length, map, take}
use Rattle.std.specs.List.{All}
use Rattle.bit_io.specs.Bits.{u}
use Rattle.cavlc.specs.Levels.{sign}
use Rattle.cavlc.specs.Parts.{IsOne}
use Rattle.cavlc.proofs.levels.put_ones.Given as goal

abbrev pub invariant-loop-i : goal.invariant-loop-i
invariant-loop-i l = record {
  size : length l.levels ≡ 16;
  signs : map sign (take l.i l.levels) ++ u l.signs (l.ones - l.i) ≡ u l.signs l.ones;
  each : All IsOne (take l.i l.levels);
}
