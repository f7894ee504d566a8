use Rattle.std.proofs.Common.{refl, rules}
use mir.Syntax.{w8, w32}
use mir.Val.{SFits}
use Rattle.std.proofs.lemmas.Int.{to_z-of_z}
use Rattle.marking.proofs.info.info_of.Goals as goal

pub returns : goal.returns
returns c =
    let pps = c.args.pps.now in
    let top : SFits w32 c.args.counts.top = search rules in
    let bottom : SFits w32 c.args.counts.bottom = search rules in
    let chroma : SFits w32 pps.chroma_qp_index_offset = search rules in
    let chroma8 : SFits w8 pps.chroma_qp_index_offset = search rules in
    let init : SFits w32 pps.pic_init_qp_minus26 = search rules in
    let init8 : SFits w8 pps.pic_init_qp_minus26 = search rules in
    rw (
      to_z-of_z w32 c.args.counts.top top,
      to_z-of_z w32 c.args.counts.bottom bottom,
      to_z-of_z w32 pps.chroma_qp_index_offset chroma,
      to_z-of_z w8 pps.chroma_qp_index_offset chroma8,
      to_z-of_z w32 pps.pic_init_qp_minus26 init,
      to_z-of_z w8 pps.pic_init_qp_minus26 init8,
      c.is_reference.ensures,
    ) refl
