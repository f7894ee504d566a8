use Rattle.std.proofs.Common.{ℕ, ◌-◌, ◌<◌, ◌≤◌, List, ◌++◌, length, take, None}
use Rattle.nal_units.specs.Settled.{Settles}
use Rattle.nal_units.specs.Finder.{IsInside}
use Rattle.nal_units.proofs.finder.plain_len.Given as goal

-- The bytes so far leave a unit as it is, and find nothing.
abbrev pub invariant-loop-plain : goal.invariant-loop-plain
invariant-loop-plain l =
    record {
      below : l.plain < length l.bytes;
      stands : (text : List ℕ) (settled : List (ℕ × ℕ)) (start : ℕ) → IsInside text settled start 0 → IsInside (text ++ take l.plain l.bytes) settled start 0;
      quiet : (text : List ℕ) (settled : List (ℕ × ℕ)) (start : ℕ) → IsInside text settled start 0 → (k : ℕ) → k ≤ l.plain → Settles (text ++ take k l.bytes) settled None;
    }

abbrev pub decreases-loop-plain : goal.decreases-loop-plain
decreases-loop-plain l = length l.bytes - l.plain
