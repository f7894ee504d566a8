-- The elements of a slice header. H.264, 7.3.3 and 7.4.3.
use Rattle.std.specs.Prelude.{ℕ, ◌+◌, ◌-◌, ◌-ℤ◌, ◌==◌, Bool, false, ◌||◌, if◌then◌else◌, List, [], ◌∷◌, length, replicate, Option, Some, None, ℤ, pos, negsuc}
use Rattle.cb_types.specs.AcceptedInfo.{max_frame_num}
use Rattle.cb_types.specs.declared.header.EntryWeights.{EntryWeights}
use Rattle.cb_types.specs.declared.header.Header.{Header}
use Rattle.cb_types.specs.declared.header.ListEdit.{ListEdit}
use Rattle.cb_types.specs.declared.header.ListEdit.TheVariants.{Add, Long, Subtract}
use Rattle.cb_types.specs.declared.header.Marking.{Marking}
use Rattle.cb_types.specs.declared.header.Marking.TheVariants.{Absent, Idr, Operations, Sliding}
use Rattle.cb_types.specs.declared.header.Mmco.{Mmco}
use Rattle.cb_types.specs.declared.header.Mmco.TheVariants.{CurrentLong, MakeLong, MaxLong, Reset, UnmarkLong, UnmarkShort}
use Rattle.cb_types.specs.declared.header.UnitHead.{UnitHead}
use Rattle.cb_types.specs.declared.header.Weight.{Weight}
use Rattle.cb_types.specs.declared.header.Weights.{Weights}
use Rattle.cb_types.specs.declared.picture_info.PictureInfo.{PictureInfo}
use Rattle.element_tables.specs.Syntax.{Syntax, Made, Rule, ◌>>=◌, u, ue, se, flag, present, times, any, up_to, between}
use Rattle.element_tables.specs.declared.elements.Stop.TheVariants.{Malformed}
use Rattle.slice_header.specs.Conditions.{active_of, has_bottom, has_delta, has_lsb, has_offsets, has_second_delta, has_weights, is_idr_unit, is_p_type}
use Rattle.slice_header.specs.Lists.{flagged, listed, padded}
use Rattle.slice_header.specs.declared.parts.Edits.{Edits}
use Rattle.slice_header.specs.declared.parts.Filter.{Filter}
use Rattle.slice_header.specs.declared.parts.Numbers.{Numbers}
use Rattle.slice_header.specs.declared.parts.Orders.{Orders}
use Rattle.slice_header.specs.declared.parts.References.{References}

-- slice_type: 0 and 5 are P, 2 and 7 are I, and the profile has no other
abbrev pub is_slice_type : ℕ → Bool
is_slice_type v = (v == 0) || (v == 2) || (v == 5) || (v == 7)

abbrev pub slice_types : Rule ℕ
slice_types v = if is_slice_type v then None else Some Malformed

-- the elements through idr_pic_id
unfoldable pub numbers : UnitHead → PictureInfo → Syntax Numbers
numbers head info = do
  first_mb_in_slice ← ue any
  slice_type ← ue slice_types
  pic_parameter_set_id ← ue (up_to 255)
  frame_num ← u (info.log2_max_frame_num_minus4 + 4) any
  idr_pic_id ← present (is_idr_unit head) (ue (up_to 65535)) 0
  Made (record { first_mb = first_mb_in_slice; slice_type = slice_type; pps = pic_parameter_set_id; frame_num = frame_num; idr_pic_id = idr_pic_id })

-- the elements of the picture order count
unfoldable pub orders : PictureInfo → Syntax Orders
orders info = do
  pic_order_cnt_lsb ← present (has_lsb info) (u (info.log2_max_pic_order_cnt_lsb_minus4 + 4) any) 0
  delta_pic_order_cnt_bottom ← present (has_bottom info) (se any) (pos 0)
  first ← present (has_delta info) (se any) (pos 0)
  second ← present (has_second_delta info) (se any) (pos 0)
  Made (record { poc_lsb = pic_order_cnt_lsb; delta_bottom = delta_pic_order_cnt_bottom; delta_poc = first ∷ second ∷ [] })

-- ---- the reference list: ref_pic_list_modification (7.3.3.1)

-- abs_diff_pic_num_minus1 is below MaxFrameNum
unfoldable pub command : ℕ → ℕ → Syntax ListEdit
command frame_nums modification_of_pic_nums_idc =
    if modification_of_pic_nums_idc == 0 then (do
      abs_diff_pic_num_minus1 ← ue (up_to (frame_nums - 1))
      Made (Subtract abs_diff_pic_num_minus1))
    else (if modification_of_pic_nums_idc == 1 then (do
      abs_diff_pic_num_minus1 ← ue (up_to (frame_nums - 1))
      Made (Add abs_diff_pic_num_minus1))
    else (do
      long_term_pic_num ← ue any
      Made (Long long_term_pic_num)))

-- commands up to modification_of_pic_nums_idc 3, so many at most
unfoldable pub edits : ℕ → ℕ → Syntax Edits
edits frame_nums most = do
  commands ← listed 3 3 (command frame_nums) most
  Made (record { count = length commands; list = padded 16 (Subtract 0) commands })

abbrev pub no_edits : Edits
no_edits = record { count = 0; list = replicate 16 (Subtract 0) }

-- num_ref_idx_active_override_flag, and num_ref_idx_l0_active_minus1
unfoldable pub active_override : Syntax (Option ℕ)
active_override = flagged (ue (up_to 15))

-- a P slice's active entries, and the modification of its list, which has no more commands than there are entries
unfoldable pub references : PictureInfo → Syntax References
references info = do
  num_ref_idx_l0_active_minus1 ← active_override
  ref_pic_list_modification_flag_l0 ← flag any
  commands ← present ref_pic_list_modification_flag_l0 (edits (max_frame_num info) (active_of info num_ref_idx_l0_active_minus1)) no_edits
  Made (record { active_override = num_ref_idx_l0_active_minus1; edited = ref_pic_list_modification_flag_l0; edits = commands })

abbrev pub no_references : References
no_references = record { active_override = None; edited = false; edits = no_edits }

-- ---- pred_weight_table (7.3.3.2)

-- each from -128 to 127
unfoldable pub weight : Syntax Weight
weight = do
  weight ← se (between (negsuc 127) (pos 127))
  offset ← se (between (negsuc 127) (pos 127))
  Made (record { weight = weight; offset = offset })

unfoldable pub chroma_weights : Syntax (List Weight)
chroma_weights = do
  cb ← weight
  cr ← weight
  Made (cb ∷ cr ∷ [])

-- behind luma_weight_l0_flag and chroma_weight_l0_flag
unfoldable pub entry_weights : Syntax EntryWeights
entry_weights = do
  luma ← flagged weight
  chroma ← flagged chroma_weights
  Made (record { luma = luma; chroma = chroma })

abbrev pub no_entry : EntryWeights
no_entry = record { luma = None; chroma = None }

unfoldable pub all_entries : ℕ → Syntax (List EntryWeights)
all_entries active = do
  entries ← times active entry_weights
  Made (padded 16 no_entry entries)

-- the weights of so many entries
unfoldable pub pred_weight_table : ℕ → Syntax Weights
pred_weight_table active = do
  luma_log2_weight_denom ← ue (up_to 7)
  chroma_log2_weight_denom ← ue (up_to 7)
  entries ← all_entries active
  Made (record { luma_denom = luma_log2_weight_denom; chroma_denom = chroma_log2_weight_denom; entries = entries })

abbrev pub no_weights : Weights
no_weights = record { luma_denom = 0; chroma_denom = 0; entries = replicate 16 no_entry }

-- ---- dec_ref_pic_marking (7.3.3.3)

unfoldable pub operation : ℕ → Syntax Mmco
operation memory_management_control_operation =
    if memory_management_control_operation == 1 then (do
      difference_of_pic_nums_minus1 ← ue any
      Made (UnmarkShort difference_of_pic_nums_minus1))
    else (if memory_management_control_operation == 2 then (do
      long_term_pic_num ← ue any
      Made (UnmarkLong long_term_pic_num))
    else (if memory_management_control_operation == 3 then (do
      difference_of_pic_nums_minus1 ← ue any
      long_term_frame_idx ← ue any
      Made (MakeLong difference_of_pic_nums_minus1 long_term_frame_idx))
    else (if memory_management_control_operation == 4 then (do
      max_long_term_frame_idx_plus1 ← ue any
      Made (MaxLong max_long_term_frame_idx_plus1))
    else (if memory_management_control_operation == 5 then Made Reset
    else (do
      long_term_frame_idx ← ue any
      Made (CurrentLong long_term_frame_idx))))))

unfoldable pub idr_marking : Syntax Marking
idr_marking = do
  no_output_of_prior_pics_flag ← flag any
  long_term_reference_flag ← flag any
  Made (Idr no_output_of_prior_pics_flag long_term_reference_flag)

-- operations up to memory_management_control_operation 0, at most 64
unfoldable pub operations : Syntax Marking
operations = do
  list ← listed 6 0 operation 64
  Made (Operations (length list) (padded 64 Reset list))

unfoldable pub later_marking : Syntax Marking
later_marking = do
  adaptive_ref_pic_marking_mode_flag ← flag any
  present adaptive_ref_pic_marking_mode_flag operations Sliding

unfoldable pub dec_ref_pic_marking : UnitHead → Syntax Marking
dec_ref_pic_marking head = if head.ref_idc == 0 then Made Absent else (if is_idr_unit head then idr_marking else later_marking)

-- ---- the quantizer and the deblocking filter

-- slice_qp_delta, by which 26 + pic_init_qp_minus26 + slice_qp_delta is from 0 to 51
abbrev pub least_qp_delta : PictureInfo → ℤ
least_qp_delta info = negsuc 25 -ℤ info.pic_init_qp_minus26

abbrev pub greatest_qp_delta : PictureInfo → ℤ
greatest_qp_delta info = pos 25 -ℤ info.pic_init_qp_minus26

unfoldable pub filter : PictureInfo → Syntax Filter
filter info = do
  slice_qp_delta ← se (between (least_qp_delta info) (greatest_qp_delta info))
  disable_deblocking_filter_idc ← present info.deblocking_filter_control_present_flag (ue (up_to 2)) 0
  slice_alpha_c0_offset_div2 ← present (has_offsets info disable_deblocking_filter_idc) (se (between (negsuc 5) (pos 6))) (pos 0)
  slice_beta_offset_div2 ← present (has_offsets info disable_deblocking_filter_idc) (se (between (negsuc 5) (pos 6))) (pos 0)
  Made (record { qp_delta = slice_qp_delta; idc = disable_deblocking_filter_idc; alpha_half = slice_alpha_c0_offset_div2; beta_half = slice_beta_offset_div2 })

-- ---- the header

-- a header of these parts
abbrev pub header_of : UnitHead → Numbers → Orders → References → Weights → Marking → Filter → Header
header_of head numbers orders references weights marking filter = record {
  head = head;
  first_mb = numbers.first_mb;
  slice_type = numbers.slice_type;
  pps = numbers.pps;
  frame_num = numbers.frame_num;
  idr_pic_id = numbers.idr_pic_id;
  poc_lsb = orders.poc_lsb;
  delta_bottom = orders.delta_bottom;
  delta_poc = orders.delta_poc;
  active_override = references.active_override;
  edited = references.edited;
  edit_count = references.edits.count;
  edits = references.edits.list;
  weights = weights;
  marking = marking;
  qp_delta = filter.qp_delta;
  deblock_idc = filter.idc;
  alpha_half = filter.alpha_half;
  beta_half = filter.beta_half;
}

-- The header of a slice whose unit has this first byte, by the fields of the picture info. Entries of an array beyond its
-- count are Subtract 0, None and Reset.
unfoldable pub slice_header : UnitHead → PictureInfo → Syntax Header
slice_header head info = do
  numbers ← numbers head info
  orders ← orders info
  references ← present (is_p_type numbers.slice_type) (references info) no_references
  weights ← present (has_weights info numbers.slice_type) (pred_weight_table (active_of info references.active_override)) no_weights
  marking ← dec_ref_pic_marking head
  filter ← filter info
  Made (header_of head numbers orders references weights marking filter)
