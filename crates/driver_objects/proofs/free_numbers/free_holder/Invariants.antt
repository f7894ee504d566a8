use Rattle.std.proofs.Common.{◌≡◌, ℕ, ◌<◌, true}
use Rattle.std.specs.List.{list_any}
use Rattle.driver_objects.specs.Kinds.{has_own_holder}
use Rattle.driver_objects.proofs.free_numbers.free_holder.Given as goal

abbrev pub invariant-loop-holder : goal.invariant-loop-holder
invariant-loop-holder l = (n : ℕ) → n < l.holder → list_any (has_own_holder n) l.kept ≡ true
