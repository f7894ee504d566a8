-- Picture parameter sets: their elements, and which bytes are one. H.264, 7.3.2.2 and 7.4.2.2.
use Rattle.std.specs.Prelude.{◌≡◌, ℕ, Bool, false, List, ◌++◌, length, ◌⊎◌, pos, negsuc}
use Rattle.bit_io.specs.Bits.{bits_of}
use Rattle.bit_io.specs.Trailing.{EndsHere, HasMoreData, trailing_bits}
use Rattle.element_tables.specs.Syntax.{Syntax, Made, ◌>>=◌, u, ue, se, flag, any, up_to, between, only, only_flag, Spells, Stops, Takes}
use Rattle.element_tables.specs.declared.elements.Stop.TheVariants.{Malformed, OtherProfile}
use Rattle.param_sets.specs.declared.pps.Pps.{Pps}

-- The elements of a picture set. CABAC, slice groups, weighted prediction and redundant pictures are of other profiles.
-- pic_init_qp_minus26 is from -26 to 25, and chroma_qp_index_offset from -12 to 12.
unfoldable pub pic_parameter_set_data : Syntax Pps
pic_parameter_set_data = do
  pic_parameter_set_id ← ue (up_to 255)
  seq_parameter_set_id ← ue (up_to 31)
  entropy_coding_mode_flag ← flag (only_flag false)
  bottom_field_pic_order_in_frame_present_flag ← flag any
  num_slice_groups_minus1 ← ue (only 0)
  num_ref_idx_l0_default_active_minus1 ← ue (up_to 15)
  num_ref_idx_l1_default_active_minus1 ← ue (up_to 31)
  weighted_pred_flag ← flag (only_flag false)
  weighted_bipred_idc ← u 2 (only 0)
  pic_init_qp_minus26 ← se (between (negsuc 25) (pos 25))
  pic_init_qs_minus26 ← se any
  chroma_qp_index_offset ← se (between (negsuc 11) (pos 12))
  deblocking_filter_control_present_flag ← flag any
  constrained_intra_pred_flag ← flag any
  redundant_pic_cnt_present_flag ← flag (only_flag false)
  Made (record {
    pic_parameter_set_id = pic_parameter_set_id;
    seq_parameter_set_id = seq_parameter_set_id;
    entropy_coding_mode_flag = entropy_coding_mode_flag;
    bottom_field_pic_order_in_frame_present_flag = bottom_field_pic_order_in_frame_present_flag;
    num_slice_groups_minus1 = num_slice_groups_minus1;
    num_ref_idx_l0_default_active_minus1 = num_ref_idx_l0_default_active_minus1;
    num_ref_idx_l1_default_active_minus1 = num_ref_idx_l1_default_active_minus1;
    weighted_pred_flag = weighted_pred_flag;
    weighted_bipred_idc = weighted_bipred_idc;
    pic_init_qp_minus26 = pic_init_qp_minus26;
    pic_init_qs_minus26 = pic_init_qs_minus26;
    chroma_qp_index_offset = chroma_qp_index_offset;
    deblocking_filter_control_present_flag = deblocking_filter_control_present_flag;
    constrained_intra_pred_flag = constrained_intra_pred_flag;
    redundant_pic_cnt_present_flag = redundant_pic_cnt_present_flag;
  })

-- The bytes are the set's elements, and behind them the trailing bits.
abbrev pub IsPpsOf : List ℕ → Pps → Type 0
IsPpsOf rbsp p = (rest : List Bool) × Takes pic_parameter_set_data (bits_of rbsp) p rest × EndsHere rest

-- The first element that isn't accepted belongs to another profile, or more data stands before the trailing bits: the
-- elements from transform_8x8_mode_flag on do.
abbrev pub LeavesBaseline : List ℕ → Type 0
LeavesBaseline rbsp =
    Stops pic_parameter_set_data (bits_of rbsp) OtherProfile
    ⊎ ((p : Pps) × (rest : List Bool) × Takes pic_parameter_set_data (bits_of rbsp) p rest × HasMoreData rest)

-- The first element that isn't accepted isn't spelled or is out of range, or there are neither trailing bits nor more data.
abbrev pub IsBadPps : List ℕ → Type 0
IsBadPps rbsp =
    Stops pic_parameter_set_data (bits_of rbsp) Malformed
    ⊎ ((p : Pps) × (rest : List Bool) × Takes pic_parameter_set_data (bits_of rbsp) p rest × ¬ EndsHere rest × ¬ HasMoreData rest)

-- The bytes are the set's elements and the trailing bits.
abbrev pub IsWrittenPps : List ℕ → Pps → Type 0
IsWrittenPps rbsp p = (elements : List Bool) × Spells pic_parameter_set_data elements p × (bits_of rbsp ≡ elements ++ trailing_bits (length elements))
