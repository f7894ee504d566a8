use Rattle.std.proofs.Common.{◌≡◌, ℕ, ◌<◌, true}
use Rattle.std.specs.List.{list_any}
use Rattle.driver_objects.specs.Kinds.{has_number}
use Rattle.driver_objects.proofs.free_numbers.free_queue_number.Given as goal

abbrev pub invariant-loop-number : goal.invariant-loop-number
invariant-loop-number l = (n : ℕ) → n < l.number → list_any (has_number n) l.kept ≡ true
