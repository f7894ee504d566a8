-- Which elements of a slice header stand. H.264, 7.3.3.
use Rattle.std.specs.Prelude.{ℕ, ◌+◌, ◌%◌, ◌==◌, ◌≤◌, ◌≤ℤ◌, pos, negsuc, Bool, not, ◌&&◌, Option, unwrap_or}
use Rattle.cb_types.specs.declared.header.UnitHead.{UnitHead}
use Rattle.cb_types.specs.declared.picture_info.PictureInfo.{PictureInfo}

-- the slice is of an IDR picture
abbrev pub is_idr_unit : UnitHead → Bool
is_idr_unit head = head.unit_type == 5

-- slice_type 0 and 5 are P
abbrev pub is_p_type : ℕ → Bool
is_p_type slice_type = slice_type % 5 == 0

-- pic_order_cnt_lsb
abbrev pub has_lsb : PictureInfo → Bool
has_lsb info = info.pic_order_cnt_type == 0

-- delta_pic_order_cnt_bottom
abbrev pub has_bottom : PictureInfo → Bool
has_bottom info = (info.pic_order_cnt_type == 0) && info.pic_order_present_flag

-- delta_pic_order_cnt[ 0 ]
abbrev pub has_delta : PictureInfo → Bool
has_delta info = (info.pic_order_cnt_type == 1) && not info.delta_pic_order_always_zero_flag

-- delta_pic_order_cnt[ 1 ]
abbrev pub has_second_delta : PictureInfo → Bool
has_second_delta info = has_delta info && info.pic_order_present_flag

-- pred_weight_table
abbrev pub has_weights : PictureInfo → ℕ → Bool
has_weights info slice_type = is_p_type slice_type && info.weighted_pred_flag

-- the offsets of the deblocking filter
abbrev pub has_offsets : PictureInfo → ℕ → Bool
has_offsets info idc = info.deblocking_filter_control_present_flag && not (idc == 1)

-- num_ref_idx_l0_active_minus1 of the slice, plus 1
abbrev pub active_of : PictureInfo → Option ℕ → ℕ
active_of info active_override = unwrap_or active_override info.num_ref_idx_l0_active_minus1 + 1

-- the ranges of an info's fields that the header's elements depend on
pub record HasRanges (info : PictureInfo) : Type 0 where
  pub frame_num_bits : info.log2_max_frame_num_minus4 ≤ 12
  pub lsb_bits : info.log2_max_pic_order_cnt_lsb_minus4 ≤ 12
  pub active : info.num_ref_idx_l0_active_minus1 ≤ 15
  pub qp_least : negsuc 25 ≤ℤ info.pic_init_qp_minus26
  pub qp_most : info.pic_init_qp_minus26 ≤ℤ pos 25
