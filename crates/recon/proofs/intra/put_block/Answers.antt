use Rattle.std.proofs.Common.{◌∙◌}
use Rattle.recon.proofs.BlockPlaces.{covers_block}
use Rattle.recon.proofs.intra.put_block.Goals as goal

pub returns : goal.returns
returns c = λ x y across. c.put_rect.ensures x y across ∙ covers_block c.args.column c.args.row x y c.args.block.now _
