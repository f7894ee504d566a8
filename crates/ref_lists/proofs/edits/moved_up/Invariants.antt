use Rattle.std.proofs.Common.{◌≡◌, ℕ, ◌+◌, ◌<◌, ◌≤◌, None, get_or, length, take}
use Rattle.ref_lists.proofs.MovedLemmas.{kept}
use Rattle.ref_lists.proofs.edits.moved_up.Given as goal

abbrev pub invariant-loop-i : goal.invariant-loop-i
invariant-loop-i l = record {
  size : length l.moved ≡ 17;
  few : l.next ≤ l.i + 1;
  front : take l.next l.moved ≡ kept l.entries l.settled l.place l.i;
  back : (k : ℕ) → l.next ≤ k → k < 17 → get_or l.moved k None ≡ None;
}
