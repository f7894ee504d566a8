-- The parts of a set, as they are read and written one behind the other.
use Rattle.std.specs.Prelude.{ℕ, true, false, pos, negsuc}
use Rattle.element_tables.specs.Syntax.{Syntax, Made, ◌>>=◌, u, ue, se, flag, any, up_to, between, only, only_flag}
use Rattle.param_sets.specs.declared.pps.Pps.{Pps}
use Rattle.param_sets.specs.declared.pps_parts.References.{References}
use Rattle.param_sets.specs.declared.pps_parts.Residuals.{Residuals}
use Rattle.param_sets.specs.declared.sps.Sps.{Sps}
use Rattle.param_sets.specs.declared.sps_parts.Cropping.{Cropping}
use Rattle.param_sets.specs.declared.sps_parts.Cycle.{Cycle}
use Rattle.param_sets.specs.declared.sps_parts.Frames.{Frames}
use Rattle.param_sets.specs.declared.sps_parts.Start.{Start}

-- ---- sequence sets

unfoldable pub start : Syntax Start
start = do
  profile_idc ← u 8 (only 66)
  constraints ← u 8 any
  level_idc ← u 8 any
  seq_parameter_set_id ← ue (up_to 31)
  log2_max_frame_num_minus4 ← ue (up_to 12)
  pic_order_cnt_type ← ue (up_to 2)
  Made (record {
    profile_idc = profile_idc;
    constraints = record { 0 = constraints };
    level_idc = level_idc;
    seq_parameter_set_id = seq_parameter_set_id;
    log2_max_frame_num_minus4 = log2_max_frame_num_minus4;
    pic_order_cnt_type = pic_order_cnt_type;
  })

unfoldable pub frames : Syntax Frames
frames = do
  max_num_ref_frames ← ue (up_to 16)
  gaps_in_frame_num_value_allowed_flag ← flag any
  pic_width_in_mbs_minus1 ← ue any
  pic_height_in_map_units_minus1 ← ue any
  frame_mbs_only_flag ← flag (only_flag true)
  direct_8x8_inference_flag ← flag any
  frame_cropping_flag ← flag any
  Made (record {
    max_num_ref_frames = max_num_ref_frames;
    gaps_in_frame_num_value_allowed_flag = gaps_in_frame_num_value_allowed_flag;
    pic_width_in_mbs_minus1 = pic_width_in_mbs_minus1;
    pic_height_in_map_units_minus1 = pic_height_in_map_units_minus1;
    frame_mbs_only_flag = frame_mbs_only_flag;
    direct_8x8_inference_flag = direct_8x8_inference_flag;
    frame_cropping_flag = frame_cropping_flag;
  })

-- a set of these parts
abbrev pub sps_of : Start → ℕ → Cycle → Frames → Cropping → Sps
sps_of start lsb_length cycle frames crop = record {
  profile_idc = start.profile_idc;
  constraints = start.constraints;
  level_idc = start.level_idc;
  seq_parameter_set_id = start.seq_parameter_set_id;
  log2_max_frame_num_minus4 = start.log2_max_frame_num_minus4;
  pic_order_cnt_type = start.pic_order_cnt_type;
  log2_max_pic_order_cnt_lsb_minus4 = lsb_length;
  delta_pic_order_always_zero_flag = cycle.delta_pic_order_always_zero_flag;
  offset_for_non_ref_pic = cycle.offset_for_non_ref_pic;
  offset_for_top_to_bottom_field = cycle.offset_for_top_to_bottom_field;
  num_ref_frames_in_pic_order_cnt_cycle = cycle.num_ref_frames_in_pic_order_cnt_cycle;
  offset_for_ref_frame = cycle.offset_for_ref_frame;
  max_num_ref_frames = frames.max_num_ref_frames;
  gaps_in_frame_num_value_allowed_flag = frames.gaps_in_frame_num_value_allowed_flag;
  pic_width_in_mbs_minus1 = frames.pic_width_in_mbs_minus1;
  pic_height_in_map_units_minus1 = frames.pic_height_in_map_units_minus1;
  frame_mbs_only_flag = frames.frame_mbs_only_flag;
  direct_8x8_inference_flag = frames.direct_8x8_inference_flag;
  frame_cropping_flag = frames.frame_cropping_flag;
  frame_crop_left_offset = crop.left;
  frame_crop_right_offset = crop.right;
  frame_crop_top_offset = crop.top;
  frame_crop_bottom_offset = crop.bottom;
}

-- the parts of a set
abbrev pub start_of : Sps → Start
start_of s = record {
  profile_idc = s.profile_idc;
  constraints = s.constraints;
  level_idc = s.level_idc;
  seq_parameter_set_id = s.seq_parameter_set_id;
  log2_max_frame_num_minus4 = s.log2_max_frame_num_minus4;
  pic_order_cnt_type = s.pic_order_cnt_type;
}

abbrev pub cycle_of : Sps → Cycle
cycle_of s = record {
  delta_pic_order_always_zero_flag = s.delta_pic_order_always_zero_flag;
  offset_for_non_ref_pic = s.offset_for_non_ref_pic;
  offset_for_top_to_bottom_field = s.offset_for_top_to_bottom_field;
  num_ref_frames_in_pic_order_cnt_cycle = s.num_ref_frames_in_pic_order_cnt_cycle;
  offset_for_ref_frame = s.offset_for_ref_frame;
}

abbrev pub frames_of : Sps → Frames
frames_of s = record {
  max_num_ref_frames = s.max_num_ref_frames;
  gaps_in_frame_num_value_allowed_flag = s.gaps_in_frame_num_value_allowed_flag;
  pic_width_in_mbs_minus1 = s.pic_width_in_mbs_minus1;
  pic_height_in_map_units_minus1 = s.pic_height_in_map_units_minus1;
  frame_mbs_only_flag = s.frame_mbs_only_flag;
  direct_8x8_inference_flag = s.direct_8x8_inference_flag;
  frame_cropping_flag = s.frame_cropping_flag;
}

abbrev pub crop_of : Sps → Cropping
crop_of s = record { left = s.frame_crop_left_offset; right = s.frame_crop_right_offset; top = s.frame_crop_top_offset; bottom = s.frame_crop_bottom_offset }

-- ---- picture sets

unfoldable pub references : Syntax References
references = do
  pic_parameter_set_id ← ue (up_to 255)
  seq_parameter_set_id ← ue (up_to 31)
  entropy_coding_mode_flag ← flag (only_flag false)
  bottom_field_pic_order_in_frame_present_flag ← flag any
  num_slice_groups_minus1 ← ue (only 0)
  num_ref_idx_l0_default_active_minus1 ← ue (up_to 15)
  num_ref_idx_l1_default_active_minus1 ← ue (up_to 31)
  Made (record {
    pic_parameter_set_id = pic_parameter_set_id;
    seq_parameter_set_id = seq_parameter_set_id;
    entropy_coding_mode_flag = entropy_coding_mode_flag;
    bottom_field_pic_order_in_frame_present_flag = bottom_field_pic_order_in_frame_present_flag;
    num_slice_groups_minus1 = num_slice_groups_minus1;
    num_ref_idx_l0_default_active_minus1 = num_ref_idx_l0_default_active_minus1;
    num_ref_idx_l1_default_active_minus1 = num_ref_idx_l1_default_active_minus1;
  })

unfoldable pub residuals : Syntax Residuals
residuals = do
  weighted_pred_flag ← flag (only_flag false)
  weighted_bipred_idc ← u 2 (only 0)
  pic_init_qp_minus26 ← se (between (negsuc 25) (pos 25))
  pic_init_qs_minus26 ← se any
  chroma_qp_index_offset ← se (between (negsuc 11) (pos 12))
  deblocking_filter_control_present_flag ← flag any
  constrained_intra_pred_flag ← flag any
  redundant_pic_cnt_present_flag ← flag (only_flag false)
  Made (record {
    weighted_pred_flag = weighted_pred_flag;
    weighted_bipred_idc = weighted_bipred_idc;
    pic_init_qp_minus26 = pic_init_qp_minus26;
    pic_init_qs_minus26 = pic_init_qs_minus26;
    chroma_qp_index_offset = chroma_qp_index_offset;
    deblocking_filter_control_present_flag = deblocking_filter_control_present_flag;
    constrained_intra_pred_flag = constrained_intra_pred_flag;
    redundant_pic_cnt_present_flag = redundant_pic_cnt_present_flag;
  })

-- a set of these parts
abbrev pub pps_of : References → Residuals → Pps
pps_of references residuals = record {
  pic_parameter_set_id = references.pic_parameter_set_id;
  seq_parameter_set_id = references.seq_parameter_set_id;
  entropy_coding_mode_flag = references.entropy_coding_mode_flag;
  bottom_field_pic_order_in_frame_present_flag = references.bottom_field_pic_order_in_frame_present_flag;
  num_slice_groups_minus1 = references.num_slice_groups_minus1;
  num_ref_idx_l0_default_active_minus1 = references.num_ref_idx_l0_default_active_minus1;
  num_ref_idx_l1_default_active_minus1 = references.num_ref_idx_l1_default_active_minus1;
  weighted_pred_flag = residuals.weighted_pred_flag;
  weighted_bipred_idc = residuals.weighted_bipred_idc;
  pic_init_qp_minus26 = residuals.pic_init_qp_minus26;
  pic_init_qs_minus26 = residuals.pic_init_qs_minus26;
  chroma_qp_index_offset = residuals.chroma_qp_index_offset;
  deblocking_filter_control_present_flag = residuals.deblocking_filter_control_present_flag;
  constrained_intra_pred_flag = residuals.constrained_intra_pred_flag;
  redundant_pic_cnt_present_flag = residuals.redundant_pic_cnt_present_flag;
}

-- the parts of a set
abbrev pub references_of : Pps → References
references_of p = record {
  pic_parameter_set_id = p.pic_parameter_set_id;
  seq_parameter_set_id = p.seq_parameter_set_id;
  entropy_coding_mode_flag = p.entropy_coding_mode_flag;
  bottom_field_pic_order_in_frame_present_flag = p.bottom_field_pic_order_in_frame_present_flag;
  num_slice_groups_minus1 = p.num_slice_groups_minus1;
  num_ref_idx_l0_default_active_minus1 = p.num_ref_idx_l0_default_active_minus1;
  num_ref_idx_l1_default_active_minus1 = p.num_ref_idx_l1_default_active_minus1;
}

abbrev pub residuals_of : Pps → Residuals
residuals_of p = record {
  weighted_pred_flag = p.weighted_pred_flag;
  weighted_bipred_idc = p.weighted_bipred_idc;
  pic_init_qp_minus26 = p.pic_init_qp_minus26;
  pic_init_qs_minus26 = p.pic_init_qs_minus26;
  chroma_qp_index_offset = p.chroma_qp_index_offset;
  deblocking_filter_control_present_flag = p.deblocking_filter_control_present_flag;
  constrained_intra_pred_flag = p.constrained_intra_pred_flag;
  redundant_pic_cnt_present_flag = p.redundant_pic_cnt_present_flag;
}
