-- The ranges of an accepted info.
use Rattle.std.proofs.Common.{sym, subst}
use Rattle.std.specs.Int.Signed.{le_z_yes}
use Rattle.std.specs.Prelude.{T}
use Rattle.cb_types.specs.AcceptedInfo.{IsAcceptedBySome}
use Rattle.cb_types.specs.declared.picture_info.PictureInfo.{PictureInfo}
use Rattle.cb_types.proofs.InfoFacts.{info_facts}
use Rattle.slice_header.specs.Conditions.{HasRanges}

pub info_ranges : (info : PictureInfo) → IsAcceptedBySome info → HasRanges info
info_ranges info some =
    let facts = info_facts info some in
    record {
      frame_num_bits = facts.log2_max_frame_num_minus4;
      lsb_bits = facts.log2_max_pic_order_cnt_lsb_minus4;
      active = facts.num_ref_idx_l0_active_minus1;
      qp_least = le_z_yes (subst T (sym facts.init_qp_least) tt);
      qp_most = le_z_yes (subst T (sym facts.init_qp_greatest) tt);
    }
