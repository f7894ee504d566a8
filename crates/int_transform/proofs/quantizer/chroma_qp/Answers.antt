use Rattle.std.proofs.Common.{◌≤◌, ℕ, subst, sym}
use Rattle.int_transform.proofs.ChromaQps.{chroma_qp_is, chroma_qp_limit}
use Rattle.int_transform.proofs.quantizer.chroma_qp.Goals as goal

pub returns : goal.returns
returns c =
    let is = chroma_qp_is c.args.qp _ c.args.offset _ c.requires.qp c.requires.offset c.clamp.ensures.value c.chroma_qp_of.ensures in
    record { value = is; limit = subst (λ (n : ℕ). n ≤ 39) (sym is) (chroma_qp_limit c.args.qp c.args.offset) }
