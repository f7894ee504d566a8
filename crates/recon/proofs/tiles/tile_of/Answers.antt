use Rattle.std.proofs.Common.{◌≡◌, ◌∙◌, ℕ, List, ap, subst}
use Rattle.motion.specs.declared.around.Around.{Around}
use Rattle.recon.specs.Edges.{luma_edges}
use Rattle.recon.specs.Inputs.{slice_in}
use Rattle.recon.specs.Quantizer.{chroma_qp_of}
use Rattle.recon.specs.Rebuilt.{chroma_qp_at, luma_qp_at, modes_at, usable_at}
use Rattle.recon.specs.Slice.{kind_at}
use Rattle.recon.specs.declared.edges.Edges.{Edges}
use Rattle.recon.proofs.TileLemmas.{AsInter, IsLuma16, IsLuma4, WithChroma, inter_answers, intra16_answers, intra4_answers, not_intra}
use Rattle.recon.proofs.tiles.tile_of.Goals as goal

pub returns-in_ok-y-in-Intra4-clause-tile : goal.returns-in_ok-y-in-Intra4-clause-tile
returns-in_ok-y-in-Intra4-clause-tile c =
    let slice = slice_in c.args.inputs.now in
    let number = c.args.number in
    let tiles = c.args.tiles.now in
    let y = c.in_ok-y-in-Intra4.y in
    let edges : c.luma_edges.result ≡ luma_edges tiles (usable_at slice number) = c.luma_edges.ensures ∙ ap (luma_edges tiles) c.requires.usable in
    let qpc : c.chroma_qp_of-qpc.result ≡ chroma_qp_at slice number = c.chroma_qp_of-qpc.ensures.qpc ∙ ap (chroma_qp_of slice.info) c.requires.qp in
    let a = subst (λ (e : Edges). IsLuma4 slice number y e c.args.modes.now.0 c.args.qp) edges c.in_ok-y-in-Intra4.ensures in
    let b = subst (λ (m : List ℕ). IsLuma4 slice number y (luma_edges tiles (usable_at slice number)) m c.args.qp) c.requires.modes a in
    let d = subst (λ (q : ℕ). IsLuma4 slice number y (luma_edges tiles (usable_at slice number)) (modes_at slice number) q) c.requires.qp b in
    let e = subst (λ (u : Around). WithChroma slice number tiles c.in-Intra4.chroma y c.with_chroma.result u c.chroma_qp_of-qpc.result) c.requires.usable c.with_chroma.ensures in
    let f = subst (λ (q : ℕ). WithChroma slice number tiles c.in-Intra4.chroma y c.with_chroma.result (usable_at slice number) q) qpc e in
    intra4_answers slice number c.args.vectors.now tiles c.in-Intra4.modes c.in-Intra4.chroma c.in-Intra4.pattern y c.with_chroma.result c.in-Intra4.is d f

pub returns-in_ok-y-in-Intra16-clause-tile : goal.returns-in_ok-y-in-Intra16-clause-tile
returns-in_ok-y-in-Intra16-clause-tile c =
    let slice = slice_in c.args.inputs.now in
    let number = c.args.number in
    let tiles = c.args.tiles.now in
    let y = c.in_ok-y-in-Intra16.y in
    let mode = c.in-Intra16.mode in
    let edges : c.luma_edges-in-Intra16.result ≡ luma_edges tiles (usable_at slice number) = c.luma_edges-in-Intra16.ensures ∙ ap (luma_edges tiles) c.requires.usable in
    let qpc : c.chroma_qp_of-qpc.result ≡ chroma_qp_at slice number = c.chroma_qp_of-qpc.ensures.qpc ∙ ap (chroma_qp_of slice.info) c.requires.qp in
    let a = subst (λ (e : Edges). IsLuma16 slice number y mode e c.args.qp) edges c.in_ok-y-in-Intra16.ensures in
    let d = subst (λ (q : ℕ). IsLuma16 slice number y mode (luma_edges tiles (usable_at slice number)) q) c.requires.qp a in
    let e = subst (λ (u : Around). WithChroma slice number tiles c.in-Intra16.chroma y c.with_chroma-in-Intra16.result u c.chroma_qp_of-qpc.result) c.requires.usable c.with_chroma-in-Intra16.ensures in
    let f = subst (λ (q : ℕ). WithChroma slice number tiles c.in-Intra16.chroma y c.with_chroma-in-Intra16.result (usable_at slice number) q) qpc e in
    intra16_answers slice number c.args.vectors.now tiles mode c.in-Intra16.chroma c.in-Intra16.pattern y c.with_chroma-in-Intra16.result c.in-Intra16.is d f

pub returns-in_default-clause-tile : goal.returns-in_default-clause-tile
returns-in_default-clause-tile c =
    let slice = slice_in c.args.inputs.now in
    let number = c.args.number in
    let vectors = c.args.vectors.now in
    let qpc : c.chroma_qp_of-qpc.result ≡ chroma_qp_at slice number = c.chroma_qp_of-qpc.ensures.qpc ∙ ap (chroma_qp_of slice.info) c.requires.qp in
    let a = subst (λ (q : ℕ). AsInter slice number vectors c.inter_tile.result q c.chroma_qp_of-qpc.result) c.requires.qp c.inter_tile.ensures in
    let b = subst (λ (q : ℕ). AsInter slice number vectors c.inter_tile.result (luma_qp_at slice number) q) qpc a in
    inter_answers slice number vectors c.args.tiles.now c.inter_tile.result (not_intra (kind_at slice number) c.in_default.not-Pcm c.in_default.not-Intra4 c.in_default.not-Intra16) b
