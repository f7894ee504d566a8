use Rattle.std.proofs.Common.{◌∙◌}
use Rattle.cb_tables.proofs.ScaleLemmas.{qp_entry}
use Rattle.cb_tables.proofs.scaling.chroma_qp_of.Goals as goal

pub returns : goal.returns
returns c = c.from.ensures ∙ qp_entry c.args.index c.requires
