-- Records in the order of their places.
use Rattle.std.specs.Prelude.{◌≡◌, ℕ, ◌==◌, Bool, List, filter}
use Rattle.std.specs.List.Sorted.{IsNonDecreasingBy}
use Rattle.trace_records.specs.declared.record.Record.{Record}

abbrev pub is_at : ℕ → Record → Bool
is_at place r = r.place == place

-- The sorted records are the others by place, the lowest first, and those of one place in the order that they had.
pub record IsByPlace (records sorted : List Record) : Type 0 where
  pub rising : IsNonDecreasingBy (λ r. r.place) sorted
  pub each : (place : ℕ) → filter (is_at place) sorted ≡ filter (is_at place) records
