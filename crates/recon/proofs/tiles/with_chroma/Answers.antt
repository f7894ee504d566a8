use Rattle.std.proofs.Common.{◌∙◌, ap, sym}
use Rattle.recon.specs.Intra.{has_chroma_edges}
use Rattle.recon.specs.declared.edges.ChromaEdges.{ChromaEdges}
use Rattle.recon.proofs.TileLemmas.{chroma_alike}
use Rattle.recon.proofs.tiles.with_chroma.Goals as goal

pub returns-in_err-cr : goal.returns-in_err-cr
returns-in_err-cr c =
    rw c.from_residual-in_err-cr.ensures (chroma_alike c.args.tiles.now c.args.usable.now c.args.mode ∙ (ap (λ (e : ChromaEdges). has_chroma_edges e c.args.mode) (sym c.cr_edges.ensures) ∙ c.in_err-cr.ensures))
