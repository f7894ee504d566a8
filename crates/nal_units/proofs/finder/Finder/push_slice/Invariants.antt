use Rattle.std.proofs.Common.{◌≡◌, ℕ, ◌-◌, ◌≤◌, List, ◌++◌, length, take, Some, None}
use Rattle.nal_units.specs.Settled.{Settles}
use Rattle.nal_units.specs.Finder.{StandsFor}
use Rattle.nal_units.proofs.finder.Finder.push_slice.Given as goal

-- The bytes so far were pushed, and found nothing.
abbrev pub invariant-loop-taken : goal.invariant-loop-taken
invariant-loop-taken l =
    record {
      within : l.taken ≤ length l.bytes;
      stands : (text : List ℕ) → StandsFor l.fn.self text → StandsFor l.self (text ++ take l.taken l.bytes);
      quiet : (text : List ℕ) (settled : List (ℕ × ℕ)) → StandsFor l.fn.self text → Settles text settled None → (k : ℕ) → k ≤ l.taken → Settles (text ++ take k l.bytes) settled None;
      unbroken : (text : List ℕ) (settled : List (ℕ × ℕ)) (at : ℕ) → StandsFor l.fn.self text → Settles text settled (Some at) → l.taken ≡ 0;
    }

abbrev pub decreases-loop-taken : goal.decreases-loop-taken
decreases-loop-taken l = length l.bytes - l.taken
