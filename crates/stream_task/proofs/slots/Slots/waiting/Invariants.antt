use Rattle.std.proofs.Common.{◌≡◌, ℕ, ◌<◌, Some, slice_get}
use Rattle.stream_task.proofs.slots.Slots.waiting.Given as goal

abbrev pub invariant-loop-surface : goal.invariant-loop-surface
invariant-loop-surface l = (k : ℕ) → k < l.surface → slice_get l.self.waits k ≡ Some (Some l.picture) → ⊥
