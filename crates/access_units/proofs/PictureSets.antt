-- What `==` tells of two sequence sets.
use Rattle.std.proofs.Common.{◌≡◌, ◌==◌, Bool, ◌&&◌, refl, subst}
use Rattle.std.proofs.Math.Bool.{beq}
use Rattle.std.specs.Bool.{Decides}
use Rattle.std.specs.Cmp.{booleans_Decides, signed_Decides, unsigned_Decides}
use Rattle.std.specs.Cmp.Rules.{signed_items}
use Rattle.std.specs.Ordering.{int_eq}
use Rattle.std.proofs.lemmas.Bool.{and_from, and_parts}
use lib.Pointwise.{pointwise}
use Rattle.param_sets.specs.declared.sps.Sps.{Sps}

-- what it computes, field by field
abbrev pub is_same : Sps → Sps → Bool
is_same a b =
    (a.profile_idc == b.profile_idc)
    && ((a.constraints.0 == b.constraints.0)
    && ((a.level_idc == b.level_idc)
    && ((a.seq_parameter_set_id == b.seq_parameter_set_id)
    && ((a.log2_max_frame_num_minus4 == b.log2_max_frame_num_minus4)
    && ((a.pic_order_cnt_type == b.pic_order_cnt_type)
    && ((a.log2_max_pic_order_cnt_lsb_minus4 == b.log2_max_pic_order_cnt_lsb_minus4)
    && ((beq a.delta_pic_order_always_zero_flag b.delta_pic_order_always_zero_flag)
    && ((int_eq a.offset_for_non_ref_pic b.offset_for_non_ref_pic)
    && ((int_eq a.offset_for_top_to_bottom_field b.offset_for_top_to_bottom_field)
    && ((a.num_ref_frames_in_pic_order_cnt_cycle == b.num_ref_frames_in_pic_order_cnt_cycle)
    && ((pointwise int_eq a.offset_for_ref_frame b.offset_for_ref_frame)
    && ((a.max_num_ref_frames == b.max_num_ref_frames)
    && ((beq a.gaps_in_frame_num_value_allowed_flag b.gaps_in_frame_num_value_allowed_flag)
    && ((a.pic_width_in_mbs_minus1 == b.pic_width_in_mbs_minus1)
    && ((a.pic_height_in_map_units_minus1 == b.pic_height_in_map_units_minus1)
    && ((beq a.frame_mbs_only_flag b.frame_mbs_only_flag)
    && ((beq a.direct_8x8_inference_flag b.direct_8x8_inference_flag)
    && ((beq a.frame_cropping_flag b.frame_cropping_flag)
    && ((a.frame_crop_left_offset == b.frame_crop_left_offset)
    && ((a.frame_crop_right_offset == b.frame_crop_right_offset)
    && ((a.frame_crop_top_offset == b.frame_crop_top_offset)
    && (a.frame_crop_bottom_offset == b.frame_crop_bottom_offset))))))))))))))))))))))

abbrev AreSameFields : Sps → Sps → Type 0
AreSameFields a b =
    (a.profile_idc ≡ b.profile_idc)
    × ((a.constraints.0 ≡ b.constraints.0)
    × ((a.level_idc ≡ b.level_idc)
    × ((a.seq_parameter_set_id ≡ b.seq_parameter_set_id)
    × ((a.log2_max_frame_num_minus4 ≡ b.log2_max_frame_num_minus4)
    × ((a.pic_order_cnt_type ≡ b.pic_order_cnt_type)
    × ((a.log2_max_pic_order_cnt_lsb_minus4 ≡ b.log2_max_pic_order_cnt_lsb_minus4)
    × ((a.delta_pic_order_always_zero_flag ≡ b.delta_pic_order_always_zero_flag)
    × ((a.offset_for_non_ref_pic ≡ b.offset_for_non_ref_pic)
    × ((a.offset_for_top_to_bottom_field ≡ b.offset_for_top_to_bottom_field)
    × ((a.num_ref_frames_in_pic_order_cnt_cycle ≡ b.num_ref_frames_in_pic_order_cnt_cycle)
    × ((a.offset_for_ref_frame ≡ b.offset_for_ref_frame)
    × ((a.max_num_ref_frames ≡ b.max_num_ref_frames)
    × ((a.gaps_in_frame_num_value_allowed_flag ≡ b.gaps_in_frame_num_value_allowed_flag)
    × ((a.pic_width_in_mbs_minus1 ≡ b.pic_width_in_mbs_minus1)
    × ((a.pic_height_in_map_units_minus1 ≡ b.pic_height_in_map_units_minus1)
    × ((a.frame_mbs_only_flag ≡ b.frame_mbs_only_flag)
    × ((a.direct_8x8_inference_flag ≡ b.direct_8x8_inference_flag)
    × ((a.frame_cropping_flag ≡ b.frame_cropping_flag)
    × ((a.frame_crop_left_offset ≡ b.frame_crop_left_offset)
    × ((a.frame_crop_right_offset ≡ b.frame_crop_right_offset)
    × ((a.frame_crop_top_offset ≡ b.frame_crop_top_offset)
    × (a.frame_crop_bottom_offset ≡ b.frame_crop_bottom_offset))))))))))))))))))))))

both_decide : {P Q : Type 0} (r s : Bool) → Decides r P → Decides s Q → Decides (r && s) (P × Q)
both_decide r s p q = (λ e. (let parts = and_parts r s e in (p.0 parts.0, q.0 parts.1)), λ x. and_from r s (p.1 x.0) (q.1 x.1))

decides_fields : (a b : Sps) → Decides (is_same a b) (AreSameFields a b)
decides_fields a b =
    both_decide _ _ (unsigned_Decides a.profile_idc b.profile_idc)
    (both_decide _ _ (unsigned_Decides a.constraints.0 b.constraints.0)
    (both_decide _ _ (unsigned_Decides a.level_idc b.level_idc)
    (both_decide _ _ (unsigned_Decides a.seq_parameter_set_id b.seq_parameter_set_id)
    (both_decide _ _ (unsigned_Decides a.log2_max_frame_num_minus4 b.log2_max_frame_num_minus4)
    (both_decide _ _ (unsigned_Decides a.pic_order_cnt_type b.pic_order_cnt_type)
    (both_decide _ _ (unsigned_Decides a.log2_max_pic_order_cnt_lsb_minus4 b.log2_max_pic_order_cnt_lsb_minus4)
    (both_decide _ _ (booleans_Decides a.delta_pic_order_always_zero_flag b.delta_pic_order_always_zero_flag)
    (both_decide _ _ (signed_Decides a.offset_for_non_ref_pic b.offset_for_non_ref_pic)
    (both_decide _ _ (signed_Decides a.offset_for_top_to_bottom_field b.offset_for_top_to_bottom_field)
    (both_decide _ _ (unsigned_Decides a.num_ref_frames_in_pic_order_cnt_cycle b.num_ref_frames_in_pic_order_cnt_cycle)
    (both_decide _ _ (signed_items a.offset_for_ref_frame b.offset_for_ref_frame)
    (both_decide _ _ (unsigned_Decides a.max_num_ref_frames b.max_num_ref_frames)
    (both_decide _ _ (booleans_Decides a.gaps_in_frame_num_value_allowed_flag b.gaps_in_frame_num_value_allowed_flag)
    (both_decide _ _ (unsigned_Decides a.pic_width_in_mbs_minus1 b.pic_width_in_mbs_minus1)
    (both_decide _ _ (unsigned_Decides a.pic_height_in_map_units_minus1 b.pic_height_in_map_units_minus1)
    (both_decide _ _ (booleans_Decides a.frame_mbs_only_flag b.frame_mbs_only_flag)
    (both_decide _ _ (booleans_Decides a.direct_8x8_inference_flag b.direct_8x8_inference_flag)
    (both_decide _ _ (booleans_Decides a.frame_cropping_flag b.frame_cropping_flag)
    (both_decide _ _ (unsigned_Decides a.frame_crop_left_offset b.frame_crop_left_offset)
    (both_decide _ _ (unsigned_Decides a.frame_crop_right_offset b.frame_crop_right_offset)
    (both_decide _ _ (unsigned_Decides a.frame_crop_top_offset b.frame_crop_top_offset)
    (unsigned_Decides a.frame_crop_bottom_offset b.frame_crop_bottom_offset))))))))))))))))))))))

same_fields : (a b : Sps) → AreSameFields a b → a ≡ b
same_fields a b same = λ i. record {
  profile_idc = same.0 i;
  constraints = record { 0 = same.1.0 i };
  level_idc = same.1.1.0 i;
  seq_parameter_set_id = same.1.1.1.0 i;
  log2_max_frame_num_minus4 = same.1.1.1.1.0 i;
  pic_order_cnt_type = same.1.1.1.1.1.0 i;
  log2_max_pic_order_cnt_lsb_minus4 = same.1.1.1.1.1.1.0 i;
  delta_pic_order_always_zero_flag = same.1.1.1.1.1.1.1.0 i;
  offset_for_non_ref_pic = same.1.1.1.1.1.1.1.1.0 i;
  offset_for_top_to_bottom_field = same.1.1.1.1.1.1.1.1.1.0 i;
  num_ref_frames_in_pic_order_cnt_cycle = same.1.1.1.1.1.1.1.1.1.1.0 i;
  offset_for_ref_frame = same.1.1.1.1.1.1.1.1.1.1.1.0 i;
  max_num_ref_frames = same.1.1.1.1.1.1.1.1.1.1.1.1.0 i;
  gaps_in_frame_num_value_allowed_flag = same.1.1.1.1.1.1.1.1.1.1.1.1.1.0 i;
  pic_width_in_mbs_minus1 = same.1.1.1.1.1.1.1.1.1.1.1.1.1.1.0 i;
  pic_height_in_map_units_minus1 = same.1.1.1.1.1.1.1.1.1.1.1.1.1.1.1.0 i;
  frame_mbs_only_flag = same.1.1.1.1.1.1.1.1.1.1.1.1.1.1.1.1.0 i;
  direct_8x8_inference_flag = same.1.1.1.1.1.1.1.1.1.1.1.1.1.1.1.1.1.0 i;
  frame_cropping_flag = same.1.1.1.1.1.1.1.1.1.1.1.1.1.1.1.1.1.1.0 i;
  frame_crop_left_offset = same.1.1.1.1.1.1.1.1.1.1.1.1.1.1.1.1.1.1.1.0 i;
  frame_crop_right_offset = same.1.1.1.1.1.1.1.1.1.1.1.1.1.1.1.1.1.1.1.1.0 i;
  frame_crop_top_offset = same.1.1.1.1.1.1.1.1.1.1.1.1.1.1.1.1.1.1.1.1.1.0 i;
  frame_crop_bottom_offset = same.1.1.1.1.1.1.1.1.1.1.1.1.1.1.1.1.1.1.1.1.1.1 i;
}

fields_itself : (a : Sps) → AreSameFields a a
fields_itself a = (refl, (refl, (refl, (refl, (refl, (refl, (refl, (refl, (refl, (refl, (refl, (refl, (refl, (refl, (refl, (refl, (refl, (refl, (refl, (refl, (refl, (refl, refl))))))))))))))))))))))

-- it tells whether they are the same
pub decides_same : (a b : Sps) → Decides (is_same a b) (a ≡ b)
decides_same a b =
    let fields = decides_fields a b in
    (λ e. same_fields a b (fields.0 e), λ e. fields.1 (subst (λ (s : Sps). AreSameFields a s) e (fields_itself a)))
