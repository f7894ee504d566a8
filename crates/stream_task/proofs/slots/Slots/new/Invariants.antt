use Rattle.std.proofs.Common.{◌≡◌, ℕ, ◌<◌, length, slice_index_or}
use Rattle.stream_task.proofs.slots.Slots.new.Given as goal

abbrev pub invariant-loop-number : goal.invariant-loop-number
invariant-loop-number l = record {
  size : length l.of_number ≡ 17;
  own : (k : ℕ) → k < l.number → slice_index_or l.of_number k 0 ≡ k;
}
