use Rattle.std.proofs.Common.{◌+◌, ◌-◌, ◌≤◌, drop, reverse, take}
use Rattle.cavlc.proofs.CoefficientLemmas.{ArePlaced}
use Rattle.cavlc.proofs.RunLemmas.{RunsRead}
use Rattle.cavlc.specs.Coefficients.{gaps}
use Rattle.cavlc.proofs.reading.read_places.Given as goal

abbrev pub invariant-loop-i : goal.invariant-loop-i
invariant-loop-i l = record {
  few : l.left ≤ l.zeros;
  placed : ArePlaced (take l.i l.levels) l.total l.zeros l.left (l.left + l.total - l.i) l.into;
  runs : RunsRead l.zeros l.left (reverse (gaps 0 (drop (l.left + l.total - l.i) l.into))) l.initial.reader l.reader;
}
