use Rattle.std.proofs.Common.{◌≡◌, not, take, filter}
use Rattle.marking.specs.Frames.{is_long_at}
use Rattle.marking.proofs.operations.without_index.Given as goal

abbrev pub invariant-loop-place : goal.invariant-loop-place
invariant-loop-place l = l.kept ≡ filter (λ frame. not (is_long_at l.index frame)) (take l.place l.frames)
