use Rattle.std.proofs.Common.{◌≡◌, ℕ, ◌+◌, ◌*◌, ◌<◌}
use Rattle.mixer.specs.Mixed.{mixed, pixel_at}
use Rattle.mixer.proofs.mix.Given as goal

abbrev pub invariant-loop-y : goal.invariant-loop-y
invariant-loop-y l = (x' y' : ℕ) → x' < l.picture.y.width → y' < l.y → pixel_at l.out (y' * l.picture.y.width + x') ≡ mixed l.picture l.matrix l.format x' y'
