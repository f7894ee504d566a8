use Rattle.std.proofs.Common.{◌≡◌, ℕ, ◌<◌, ◌≤◌, length, get_or}
use Rattle.intra_pred.specs.Sides.{sample_in}
use Rattle.intra_pred.proofs.rows.put_rows.Given as goal

abbrev pub invariant-loop-y : goal.invariant-loop-y
invariant-loop-y l =
    ((x y : ℕ) → x < length l.row → l.from ≤ y → y < l.y → sample_in (length l.row) l.block x y ≡ get_or l.row x 0)
    × ((x y : ℕ) → x < length l.row → y < l.from → sample_in (length l.row) l.block x y ≡ sample_in (length l.row) l.initial.block x y)
