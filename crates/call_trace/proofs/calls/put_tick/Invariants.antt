use Rattle.std.proofs.Common.{◌≡◌, ◌+◌, ◌≤◌, length, vec_capacity}
use Rattle.driver_objects.specs.Flips.{flipped}
use Rattle.trace_records.specs.declared.record.Event.TheVariants.{Advance}
use Rattle.call_trace.proofs.Recording.{so_far}
use Rattle.call_trace.proofs.calls.put_tick.Given as goal

abbrev pub invariant-loop-i : goal.invariant-loop-i
invariant-loop-i l =
    record {
      is : l.records.items ≡ so_far l.fn.records.items l.place (Advance l.device (length (flipped l.flips)) l.time) (flipped l.flips) l.i;
      many : length l.records.items ≡ length l.fn.records.items + 1 + l.i;
      room : length l.fn.records.items + 65 ≤ vec_capacity l.records;
      few : l.count ≤ 64;
      all : l.count ≡ length (flipped l.flips);
    }
