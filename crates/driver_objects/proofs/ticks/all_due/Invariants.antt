use Rattle.std.proofs.Common.{◌≡◌, ◌++◌, drop}
use Rattle.std.specs.List.{filter_map}
use Rattle.driver_objects.specs.Ticks.{due_of}
use Rattle.driver_objects.proofs.ticks.all_due.Given as goal

abbrev pub invariant-loop-object : goal.invariant-loop-object
invariant-loop-object l =
    l.dues.items ++ filter_map (due_of l.queues l.device l.time) (drop l.object-index l.kept) ≡ filter_map (due_of l.queues l.device l.time) l.kept
