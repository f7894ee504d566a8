use Rattle.std.proofs.Common.{◌≡◌, ◌-◌, drop, pos, replicate, take}
use Rattle.element_tables.specs.Syntax.{Takes, any, se, times}
use Rattle.param_sets.proofs.sps_reading.read_offsets.Given as goal

abbrev pub invariant-loop-i : goal.invariant-loop-i
invariant-loop-i l = record {
  read : Takes (times l.i (se any)) l.fn.reader (take l.i l.offsets) l.reader;
  zeros : drop l.i l.offsets ≡ replicate (255 - l.i) (pos 0);
}
