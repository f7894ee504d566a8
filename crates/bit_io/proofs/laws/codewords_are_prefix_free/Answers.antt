use Rattle.bit_io.proofs.LawLemmas.{u_prefix_free, ue_prefix_free, se_prefix_free, te_prefix_free}
use Rattle.bit_io.proofs.laws.codewords_are_prefix_free.Goals as goal

pub returns : goal.returns
returns c = record { u = u_prefix_free; ue = ue_prefix_free; se = se_prefix_free; te = te_prefix_free }
