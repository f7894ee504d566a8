-- What an accepted picture info says of its fields, for the crates above.
use Rattle.std.proofs.Common.{◌≡◌, ◌<◌, ◌≤◌, ◌&&◌, Bool, true, false, pos, negsuc, int_le, refl, arith}
use Rattle.std.proofs.lemmas.Bool.{leb-true, ltb-true}
use Rattle.cb_types.specs.AcceptedInfo.{IsAcceptedBySome, max_frame_num}
use Rattle.cb_types.specs.declared.picture_info.PictureInfo.{PictureInfo}

pub record InfoFacts (info : PictureInfo) : Type 0 where
  pub num_ref_frames : info.num_ref_frames ≤ 16
  pub num_ref_idx_l0_active_minus1 : info.num_ref_idx_l0_active_minus1 ≤ 15
  pub log2_max_frame_num_minus4 : info.log2_max_frame_num_minus4 ≤ 12
  pub pic_order_cnt_type : info.pic_order_cnt_type ≤ 2
  pub log2_max_pic_order_cnt_lsb_minus4 : info.log2_max_pic_order_cnt_lsb_minus4 ≤ 12
  pub frame_num : info.frame_num < max_frame_num info
  pub chroma_qp_least : int_le (negsuc 11) info.chroma_qp_index_offset ≡ true
  pub chroma_qp_greatest : int_le info.chroma_qp_index_offset (pos 12) ≡ true
  pub init_qp_least : int_le (negsuc 25) info.pic_init_qp_minus26 ≡ true
  pub init_qp_greatest : int_le info.pic_init_qp_minus26 (pos 25) ≡ true

both : (a b : Bool) → (a && b) ≡ true → (a ≡ true) × (b ≡ true)
both true b e = (refl, e)
both false b e = absurd cc

pub info_facts : (info : PictureInfo) → IsAcceptedBySome info → InfoFacts info
info_facts info some =
    let accepted = some.2 in
    let most = leb-true _ _ (accepted 0 (omega arith)) in
    let frames = leb-true _ _ (accepted 3 (omega arith)) in
    let chroma = both _ _ (accepted 11 (omega arith)) in
    let qp = both _ _ (accepted 12 (omega arith)) in
    record {
      num_ref_frames = omega (arith, most, frames);
      num_ref_idx_l0_active_minus1 = leb-true _ _ (accepted 13 (omega arith));
      log2_max_frame_num_minus4 = leb-true _ _ (accepted 14 (omega arith));
      pic_order_cnt_type = leb-true _ _ (accepted 15 (omega arith));
      log2_max_pic_order_cnt_lsb_minus4 = leb-true _ _ (accepted 16 (omega arith));
      frame_num = ltb-true _ _ (accepted 17 (omega arith));
      chroma_qp_least = chroma.0;
      chroma_qp_greatest = chroma.1;
      init_qp_least = qp.0;
      init_qp_greatest = qp.1;
    }
