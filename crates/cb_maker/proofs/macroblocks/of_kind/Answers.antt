use Rattle.std.proofs.Common.{sym, ap, ℤ, rules}
use Rattle.std.proofs.lemmas.Int.{to_z-of_z}
use Rattle.cb_maker.proofs.Drawing.{after}
use mir.Syntax.{w32}
use mir.Val.{SFits}
use Rattle.cb_types.specs.declared.macroblock.Macroblock.{Macroblock}
use Rattle.cb_maker.specs.Macroblocks.{drawn_of_kind}
use Rattle.cb_maker.proofs.macroblocks.of_kind.Goals as goal

pub returns : goal.returns
unfolding drawn_of_kind
returns c =
    let fits : SFits w32 c.qp_delta-qp_delta.result = search rules in
    after _ _ _ _ _ _ c.qp_delta-qp_delta.ensures (after _ _ _ _ _ _ c.block-luma_dc.ensures (after _ _ _ _ _ _ c.luma-luma.ensures
    (after _ _ _ _ _ _ c.chroma_dc-chroma_dc.ensures (after _ _ _ _ _ _ c.chroma-chroma.ensures
    (ap (λ (q : ℤ). let mb : Macroblock = record {
      kind = c.args.kind;
      qp_delta = q;
      luma_dc = c.block-luma_dc.result;
      luma = c.luma-luma.result;
      chroma_dc = c.chroma_dc-chroma_dc.result;
      chroma = c.chroma-chroma.result;
    } in (mb, c.chroma-chroma.new.draws.state)) (sym (to_z-of_z w32 c.qp_delta-qp_delta.result fits)))))))
