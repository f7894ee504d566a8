use Rattle.std.proofs.Common.{◌≡◌, ℕ, ◌<◌, ◌+ℤ◌, pos, length, get_or}
use Rattle.vd_plane.specs.SampleArray.{nearest}
use Rattle.vd_plane.proofs.rect.copy_clamped.Given as goal

abbrev pub invariant-loop-k : goal.invariant-loop-k
invariant-loop-k l = (j : ℕ) → j < l.k → get_or l.into j 0 ≡ get_or l.row (nearest (length l.row) (l.x +ℤ pos j)) 0
