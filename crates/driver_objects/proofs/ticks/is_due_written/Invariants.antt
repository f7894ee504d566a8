use Rattle.std.proofs.Common.{◌≡◌, ◌==◌, Bool, drop}
use Rattle.std.specs.List.{filter_map, list_any}
use Rattle.driver_objects.specs.Ticks.{due_of}
use Rattle.driver_objects.specs.declared.jobs.OutJob.{OutJob}
use Rattle.driver_objects.specs.declared.ticks.Due.{Due}
use Rattle.driver_objects.proofs.ticks.is_due_written.Given as goal

abbrev pub invariant-loop-object : goal.invariant-loop-object
invariant-loop-object l =
    let is_written : Due → Bool = λ due. list_any (λ (job : OutJob). job.target == due.surface) l.jobs in
    list_any is_written (filter_map (due_of l.queues l.device l.time) (drop l.object-index l.kept)) ≡ list_any is_written (filter_map (due_of l.queues l.device l.time) l.kept)
