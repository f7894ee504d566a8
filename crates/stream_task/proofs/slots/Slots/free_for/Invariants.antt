use Rattle.std.proofs.Common.{◌≡◌, ℕ, ◌<◌, ◌==◌, not, ◌&&◌, false, get_or, None}
use Rattle.std.specs.List.{list_any}
use Rattle.std.specs.Option.{is_some}
use Rattle.stream_task.proofs.slots.Slots.free_for.Given as goal

abbrev pub invariant-loop-surface : goal.invariant-loop-surface
invariant-loop-surface l = (k : ℕ) → k < l.surface → (not (is_some (get_or l.self.waits k None)) && not (list_any (λ x. x == k) l.self.of_number)) ≡ false
