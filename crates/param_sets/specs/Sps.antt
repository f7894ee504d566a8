-- Sequence parameter sets: their elements, and which bytes are one. H.264, 7.3.2.1.1 and 7.4.2.1.1.
use Rattle.std.specs.Prelude.{◌≡◌, ℕ, ◌+◌, ◌-◌, ◌==◌, Bool, true, false, List, ◌++◌, length, replicate, ◌⊎◌, ℤ, pos, IsTrue}
use Rattle.bit_io.specs.Bits.{bits_of}
use Rattle.bit_io.specs.Trailing.{EndsHere, trailing_bits}
use Rattle.cb_types.specs.SizeMbs.{IsWithinLimits}
use Rattle.cb_types.specs.declared.size.SizeMbs.{SizeMbs}
use Rattle.element_tables.specs.Syntax.{Syntax, Made, ◌>>=◌, u, ue, se, flag, present, times, any, up_to, only, only_flag, Spells, Stops, Takes}
use Rattle.element_tables.specs.declared.elements.Stop.TheVariants.{Malformed, OtherProfile}
use Rattle.param_sets.specs.declared.sps.Sps.{Sps}
use Rattle.param_sets.specs.declared.sps_parts.Cropping.{Cropping}
use Rattle.param_sets.specs.declared.sps_parts.Cycle.{Cycle}

-- so many of offset_for_ref_frame, and zeros in the other places
unfoldable pub offsets : ℕ → Syntax (List ℤ)
offsets count = do
  spelled ← times count (se any)
  Made (spelled ++ replicate (255 - count) (pos 0))

-- the elements of picture order counts of type 1
unfoldable pub cycle : Syntax Cycle
cycle = do
  delta_pic_order_always_zero_flag ← flag any
  offset_for_non_ref_pic ← se any
  offset_for_top_to_bottom_field ← se any
  num_ref_frames_in_pic_order_cnt_cycle ← ue (up_to 255)
  offset_for_ref_frame ← offsets num_ref_frames_in_pic_order_cnt_cycle
  Made (record {
    delta_pic_order_always_zero_flag = delta_pic_order_always_zero_flag;
    offset_for_non_ref_pic = offset_for_non_ref_pic;
    offset_for_top_to_bottom_field = offset_for_top_to_bottom_field;
    num_ref_frames_in_pic_order_cnt_cycle = num_ref_frames_in_pic_order_cnt_cycle;
    offset_for_ref_frame = offset_for_ref_frame;
  })

-- where they are absent
abbrev pub no_cycle : Cycle
no_cycle = record {
  delta_pic_order_always_zero_flag = false;
  offset_for_non_ref_pic = pos 0;
  offset_for_top_to_bottom_field = pos 0;
  num_ref_frames_in_pic_order_cnt_cycle = 0;
  offset_for_ref_frame = replicate 255 (pos 0);
}

-- frame_crop_left_offset, frame_crop_right_offset, frame_crop_top_offset and frame_crop_bottom_offset
unfoldable pub cropping : Syntax Cropping
cropping = do
  left ← ue any
  right ← ue any
  top ← ue any
  bottom ← ue any
  Made (record { left = left; right = right; top = top; bottom = bottom })

-- where they are absent
abbrev pub no_cropping : Cropping
no_cropping = record { left = 0; right = 0; top = 0; bottom = 0 }

-- The elements of a sequence set, without those of a VUI. They make the set, and vui_parameters_present_flag. The six
-- constraint flags and the two bits behind them are any; interlacing is of another profile.
unfoldable pub seq_parameter_set_data : Syntax (Sps × Bool)
seq_parameter_set_data = do
  profile_idc ← u 8 (only 66)
  constraints ← u 8 any
  level_idc ← u 8 any
  seq_parameter_set_id ← ue (up_to 31)
  log2_max_frame_num_minus4 ← ue (up_to 12)
  pic_order_cnt_type ← ue (up_to 2)
  log2_max_pic_order_cnt_lsb_minus4 ← present (pic_order_cnt_type == 0) (ue (up_to 12)) 0
  cycle ← present (pic_order_cnt_type == 1) cycle no_cycle
  max_num_ref_frames ← ue (up_to 16)
  gaps_in_frame_num_value_allowed_flag ← flag any
  pic_width_in_mbs_minus1 ← ue any
  pic_height_in_map_units_minus1 ← ue any
  frame_mbs_only_flag ← flag (only_flag true)
  direct_8x8_inference_flag ← flag any
  frame_cropping_flag ← flag any
  crop ← present frame_cropping_flag cropping no_cropping
  vui_parameters_present_flag ← flag any
  let set : Sps = record {
    profile_idc = profile_idc;
    constraints = record { 0 = constraints };
    level_idc = level_idc;
    seq_parameter_set_id = seq_parameter_set_id;
    log2_max_frame_num_minus4 = log2_max_frame_num_minus4;
    pic_order_cnt_type = pic_order_cnt_type;
    log2_max_pic_order_cnt_lsb_minus4 = log2_max_pic_order_cnt_lsb_minus4;
    delta_pic_order_always_zero_flag = cycle.delta_pic_order_always_zero_flag;
    offset_for_non_ref_pic = cycle.offset_for_non_ref_pic;
    offset_for_top_to_bottom_field = cycle.offset_for_top_to_bottom_field;
    num_ref_frames_in_pic_order_cnt_cycle = cycle.num_ref_frames_in_pic_order_cnt_cycle;
    offset_for_ref_frame = cycle.offset_for_ref_frame;
    max_num_ref_frames = max_num_ref_frames;
    gaps_in_frame_num_value_allowed_flag = gaps_in_frame_num_value_allowed_flag;
    pic_width_in_mbs_minus1 = pic_width_in_mbs_minus1;
    pic_height_in_map_units_minus1 = pic_height_in_map_units_minus1;
    frame_mbs_only_flag = frame_mbs_only_flag;
    direct_8x8_inference_flag = direct_8x8_inference_flag;
    frame_cropping_flag = frame_cropping_flag;
    frame_crop_left_offset = crop.left;
    frame_crop_right_offset = crop.right;
    frame_crop_top_offset = crop.top;
    frame_crop_bottom_offset = crop.bottom;
  } in Made (set, vui_parameters_present_flag)

-- PicWidthInMbs and FrameHeightInMbs
abbrev pub size_of : Sps → SizeMbs
size_of s = record { width = s.pic_width_in_mbs_minus1 + 1; height = s.pic_height_in_map_units_minus1 + 1 }

-- The bytes are the set's elements, and behind them the trailing bits, or a VUI whatever it is.
abbrev pub IsSpelledSps : List ℕ → Sps → Type 0
IsSpelledSps rbsp s = (vui : Bool) × (rest : List Bool) × Takes seq_parameter_set_data (bits_of rbsp) (s, vui) rest × (IsTrue vui ⊎ EndsHere rest)

-- The bytes are this set, and this decoder takes it.
abbrev pub IsSpsOf : List ℕ → Sps → Type 0
IsSpsOf rbsp s = IsSpelledSps rbsp s × IsWithinLimits (size_of s)

-- The bytes are a set of larger pictures than this decoder takes.
abbrev pub IsTooLarge : List ℕ → Type 0
IsTooLarge rbsp = (s : Sps) × IsSpelledSps rbsp s × ¬ IsWithinLimits (size_of s)

-- The first element that isn't accepted belongs to another profile.
abbrev pub LeavesBaseline : List ℕ → Type 0
LeavesBaseline rbsp = Stops seq_parameter_set_data (bits_of rbsp) OtherProfile

-- The first element that isn't accepted isn't spelled or is out of range, or the trailing bits aren't there.
abbrev pub IsBadSps : List ℕ → Type 0
IsBadSps rbsp =
    Stops seq_parameter_set_data (bits_of rbsp) Malformed
    ⊎ ((s : Sps) × (rest : List Bool) × Takes seq_parameter_set_data (bits_of rbsp) (s, false) rest × ¬ EndsHere rest)

-- The bytes are the set's elements without a VUI, and the trailing bits.
abbrev pub IsWrittenSps : List ℕ → Sps → Type 0
IsWrittenSps rbsp s = (elements : List Bool) × Spells seq_parameter_set_data elements (s, false) × (bits_of rbsp ≡ elements ++ trailing_bits (length elements))
