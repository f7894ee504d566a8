use Rattle.cavlc.proofs.SameLemmas.{blocks_free}
use Rattle.cavlc.proofs.laws.blocks_are_prefix_free.Goals as goal

pub returns : goal.returns
returns c = blocks_free
