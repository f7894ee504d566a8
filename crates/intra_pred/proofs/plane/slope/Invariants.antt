use Rattle.std.proofs.Common.{◌≡◌, ℕ, ◌+◌, ◌*◌, ◌^◌, ◌<◌, pos, neg_ℤ, ◌+ℤ◌, ◌*ℤ◌, ◌≤ℤ◌, length, get_or}
use Rattle.std.specs.Int.{int_shr}
use Rattle.intra_pred.specs.Means.{clipped}
use Rattle.intra_pred.proofs.plane.slope.Given as goal

abbrev pub invariant-loop-x : goal.invariant-loop-x
invariant-loop-x l =
    (l.value ≡ l.first +ℤ l.step *ℤ pos l.x)
    × (neg_ℤ (pos (2 ^ 20 + 2 ^ 14 * l.x)) ≤ℤ l.value)
    × (l.value ≤ℤ pos (2 ^ 20 + 2 ^ 14 * l.x))
    × (length l.row ≡ 16)
    × ((k : ℕ) → k < l.x → get_or l.row k 0 ≡ clipped (int_shr (l.first +ℤ l.step *ℤ pos k) 5))
