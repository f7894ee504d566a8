use Rattle.std.proofs.Common.{◌+◌, ◌*◌, ◌∙◌, ap, w64, arith}
use Rattle.std.proofs.lemmas.Int.{to_z-of_z}
use Rattle.std.proofs.lemmas.Nat.{mul-add-lt}
use Rattle.recon.specs.Inter.{under}
use Rattle.recon.proofs.inter_samples.fill_luma.Goals as goal

pub returns-clause-samples : goal.returns-clause-samples
returns-clause-samples c = λ i j across down.
    c.weigh_under.ensures (j * c.args.width + i) (omega (arith, mul-add-lt j c.args.width i c.args.height down across))
    ∙ ap (under c.args.denom c.args.weight) (rw (to_z-of_z w64 c.args.x c.ranges.x, to_z-of_z w64 c.args.y c.ranges.y) at (c.luma.ensures i j across down))
