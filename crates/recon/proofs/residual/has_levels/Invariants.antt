use Rattle.std.proofs.Common.{◌≡◌, take}
use Rattle.recon.specs.Marks.{has_levels}
use Rattle.recon.proofs.residual.has_levels.Given as goal

abbrev pub invariant-loop-level : goal.invariant-loop-level
invariant-loop-level l = l.some ≡ has_levels (take l.level-index l.levels.0)
