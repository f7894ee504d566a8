use Rattle.std.proofs.Common.{◌≡◌, not, ◌||◌, nat_lt, take, filter}
use Rattle.marking.proofs.operations.with_indices_below.Given as goal

abbrev pub invariant-loop-place : goal.invariant-loop-place
invariant-loop-place l = l.kept ≡ filter (λ frame. not frame.is_long_term || nat_lt frame.frame_idx l.indices) (take l.place l.frames)
