use Rattle.std.proofs.Common.{◌≡◌, ◌-◌, length, map}
use Rattle.driver_model.specs.States.{free_number, free_number_from}
use Rattle.driver_objects.proofs.jobs.free_number.Given as goal

-- the least number is still looked for, from this one on
abbrev pub invariant-loop : goal.invariant-loop
invariant-loop l =
    (l.number ≡ l.counter)
    × (free_number (map (λ job. job.number) l.fn.jobs) ≡ free_number_from (map (λ job. job.number) l.fn.jobs) (length l.fn.jobs - l.counter) l.number)
