-- The parameter sets that reading can give, field by field.
use Rattle.std.specs.Prelude.{◌≡◌, ◌≢◌, ℕ, ◌-◌, ◌^◌, ◌<◌, ◌≤◌, List, length, take, drop, replicate, ℤ, pos, negsuc, ◌≤ℤ◌, IsTrue, IsFalse, All}
use Rattle.bit_io.specs.Codewords.{IsUe, IsSe}
use Rattle.cb_types.specs.SizeMbs.{IsWithinLimits}
use Rattle.param_sets.specs.Sps.{size_of}
use Rattle.param_sets.specs.declared.pps.Pps.{Pps}
use Rattle.param_sets.specs.declared.sps.Sps.{Sps}

-- 255 places, so many entries with a codeword in the first ones, and zeros in the others
pub record AreOffsets (count : ℕ) (offsets : List ℤ) : Type 0 where
  pub places : length offsets ≡ 255
  pub most : count ≤ 255
  pub spelled : All IsSe (take count offsets)
  pub others : drop count offsets ≡ replicate (255 - count) (pos 0)

pub record HasNoCycle (s : Sps) : Type 0 where
  pub delta_pic_order_always_zero_flag : IsFalse s.delta_pic_order_always_zero_flag
  pub offset_for_non_ref_pic : s.offset_for_non_ref_pic ≡ pos 0
  pub offset_for_top_to_bottom_field : s.offset_for_top_to_bottom_field ≡ pos 0
  pub num_ref_frames_in_pic_order_cnt_cycle : s.num_ref_frames_in_pic_order_cnt_cycle ≡ 0

pub record HasNoCropping (s : Sps) : Type 0 where
  pub left : s.frame_crop_left_offset ≡ 0
  pub right : s.frame_crop_right_offset ≡ 0
  pub top : s.frame_crop_top_offset ≡ 0
  pub bottom : s.frame_crop_bottom_offset ≡ 0

pub record IsAcceptedSps (s : Sps) : Type 0 where
  pub profile_idc : s.profile_idc ≡ 66
  pub constraints : s.constraints.0 < 2 ^ 8
  pub level_idc : s.level_idc < 2 ^ 8
  pub seq_parameter_set_id : s.seq_parameter_set_id ≤ 31
  pub log2_max_frame_num_minus4 : s.log2_max_frame_num_minus4 ≤ 12
  pub pic_order_cnt_type : s.pic_order_cnt_type ≤ 2
  pub log2_max_pic_order_cnt_lsb_minus4 : s.log2_max_pic_order_cnt_lsb_minus4 ≤ 12
  pub lsb_absent : s.pic_order_cnt_type ≢ 0 → s.log2_max_pic_order_cnt_lsb_minus4 ≡ 0
  pub offset_for_non_ref_pic : IsSe s.offset_for_non_ref_pic
  pub offset_for_top_to_bottom_field : IsSe s.offset_for_top_to_bottom_field
  pub offset_for_ref_frame : AreOffsets s.num_ref_frames_in_pic_order_cnt_cycle s.offset_for_ref_frame
  pub cycle_absent : s.pic_order_cnt_type ≢ 1 → HasNoCycle s
  pub max_num_ref_frames : s.max_num_ref_frames ≤ 16
  pub size : IsWithinLimits (size_of s)
  pub frame_mbs_only_flag : IsTrue s.frame_mbs_only_flag
  pub frame_crop_left_offset : IsUe s.frame_crop_left_offset
  pub frame_crop_right_offset : IsUe s.frame_crop_right_offset
  pub frame_crop_top_offset : IsUe s.frame_crop_top_offset
  pub frame_crop_bottom_offset : IsUe s.frame_crop_bottom_offset
  pub cropping_absent : IsFalse s.frame_cropping_flag → HasNoCropping s

pub record IsAcceptedPps (p : Pps) : Type 0 where
  pub pic_parameter_set_id : p.pic_parameter_set_id ≤ 255
  pub seq_parameter_set_id : p.seq_parameter_set_id ≤ 31
  pub entropy_coding_mode_flag : IsFalse p.entropy_coding_mode_flag
  pub num_slice_groups_minus1 : p.num_slice_groups_minus1 ≡ 0
  pub num_ref_idx_l0_default_active_minus1 : p.num_ref_idx_l0_default_active_minus1 ≤ 15
  pub num_ref_idx_l1_default_active_minus1 : p.num_ref_idx_l1_default_active_minus1 ≤ 31
  pub weighted_pred_flag : IsFalse p.weighted_pred_flag
  pub weighted_bipred_idc : p.weighted_bipred_idc ≡ 0
  pub qp_least : negsuc 25 ≤ℤ p.pic_init_qp_minus26
  pub qp_most : p.pic_init_qp_minus26 ≤ℤ pos 25
  pub pic_init_qs_minus26 : IsSe p.pic_init_qs_minus26
  pub chroma_least : negsuc 11 ≤ℤ p.chroma_qp_index_offset
  pub chroma_most : p.chroma_qp_index_offset ≤ℤ pos 12
  pub redundant_pic_cnt_present_flag : IsFalse p.redundant_pic_cnt_present_flag
