use Rattle.std.proofs.Common.{◌≡◌, ℕ, ◌<◌}
use Rattle.mixer.specs.Colours.{in_row}
use Rattle.mixer.specs.Mixed.{pixel_at}
use Rattle.mixer.proofs.narrow.mix_row.Given as goal

abbrev pub invariant-loop-x : goal.invariant-loop-x
invariant-loop-x l = (k : ℕ) → k < l.x → pixel_at l.out k ≡ in_row l.colours l.luma l.cb l.cr k
