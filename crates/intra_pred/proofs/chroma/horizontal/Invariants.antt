use Rattle.std.proofs.Common.{◌≡◌, ℕ, ◌<◌, get_or}
use Rattle.intra_pred.specs.Sides.{sample_in}
use Rattle.intra_pred.proofs.chroma.horizontal.Given as goal

abbrev pub invariant-loop-y : goal.invariant-loop-y
invariant-loop-y l = (x y : ℕ) → x < 8 → y < l.y → sample_in 8 l.block x y ≡ get_or l.left y 0
