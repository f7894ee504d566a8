use Rattle.std.proofs.Common.{◌≡◌, ◌-◌, ◌≤◌, ℕ, List, length, take, None}
use Rattle.nal_units.specs.Finder.{StandsFor}
use Rattle.nal_units.specs.Settled.{Settles}
use Rattle.driver_jobs.proofs.units.count_units.Given as goal

abbrev pub invariant-loop-place : goal.invariant-loop-place
invariant-loop-place l =
    record {
      within : l.place ≤ length l.bytes;
      few : l.count ≤ l.place;
      stands : StandsFor l.finder (take l.place l.bytes);
      settles : (found : List (ℕ × ℕ)) × Settles (take l.place l.bytes) found None × (l.count ≡ length found);
    }

abbrev pub decreases-loop-place : goal.decreases-loop-place
decreases-loop-place l = length l.bytes - l.place
