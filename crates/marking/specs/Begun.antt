-- What begins and what ends a picture: gaps, its counts, its marking and its info. H.264, 8.2.1, 8.2.5.
use Rattle.std.specs.Prelude.{ℕ, ◌+◌, ◌-◌, ◌%◌, ◌^◌, ◌==◌, Bool, false, not, ◌&&◌, ◌||◌, if◌then◌else◌, List, [], ◌∷◌, ◌++◌, length, replicate, ℤ, pos, ◌-ℤ◌, Option, Some, None, Result, Ok, Err}
use Rattle.std.specs.Option.{option_and_then, option_map}
use Rattle.cb_types.specs.Slices.{is_idr}
use Rattle.cb_types.specs.declared.header.Header.{Header}
use Rattle.cb_types.specs.declared.picture_info.PictureInfo.{PictureInfo}
use Rattle.cb_types.specs.declared.picture_info.Reference.{Reference}
use Rattle.cb_types.specs.declared.picture_info.ScalingList4x4.{ScalingList4x4}
use Rattle.cb_types.specs.declared.picture_info.ScalingList8x8.{ScalingList8x8}
use Rattle.cb_types.specs.declared.picture_info.TheConstants.{UNUSED_SURFACE}
use Rattle.param_sets.specs.declared.pps.Pps.{Pps}
use Rattle.param_sets.specs.declared.sps.Sps.{Sps}
use Rattle.marking.specs.Frames.{after_frame_num, before_frame_num, filled, free_number}
use Rattle.marking.specs.Operations.{counts_in_range, least_count, from_zero, marks_after}
use Rattle.marking.specs.OrderCounts.{frame_num_offset, is_reference, order_counts}
use Rattle.marking.specs.declared.begun.Begun.{Begun}
use Rattle.marking.specs.declared.begun.MarkFault.{MarkFault}
use Rattle.marking.specs.declared.begun.MarkFault.TheVariants.{Gap, Refused}
use Rattle.marking.specs.declared.counts.Counts.{Counts}
use Rattle.marking.specs.declared.counts.Orders.{Orders}
use Rattle.marking.specs.declared.marker.Marker.{Marker}
use Rattle.marking.specs.declared.marker.Settled.{Settled}
use Rattle.marking.specs.declared.numbers.Numbers.{Numbers}

abbrev pub max_frame_num : Sps → ℕ
max_frame_num sps = 2 ^ (sps.log2_max_frame_num_minus4 + 4)

abbrev pub numbers_of : Sps → Header → Numbers
numbers_of sps header = record { max_frame_num = max_frame_num sps; frame_num = header.frame_num; max_num_ref_frames = sps.max_num_ref_frames }

-- ---- frame numbers (7.4.3, 8.2.5.2). The last reference picture's frame_num is last_frame_num.

abbrev pub next_frame_num : Marker → Numbers → ℕ
next_frame_num marker n = after_frame_num n.max_frame_num marker.last_frame_num

-- An IDR picture has frame_num 0. Another one has the next one, or a later one where gaps are allowed, but not the last
-- reference picture's.
abbrev pub is_gap_fault : Marker → Sps → Header → Bool
is_gap_fault marker sps header =
    if is_idr header then not (header.frame_num == 0)
    else not (header.frame_num == next_frame_num marker (numbers_of sps header))
    && (not sps.gaps_in_frame_num_value_allowed_flag || header.frame_num == marker.last_frame_num)

-- how many frame numbers were left out before this one
abbrev pub missing : Marker → Numbers → ℕ
missing marker n = (n.frame_num + n.max_frame_num - next_frame_num marker n) % n.max_frame_num

-- the frames marked before a picture, with those left out; an IDR picture leaves none out
abbrev pub frames_before : Marker → Numbers → Header → Option (List Reference)
frames_before marker n header =
    if is_idr header then Some marker.frames
    else filled (missing marker n) (record n { frame_num = next_frame_num marker n }) marker.frames

-- ---- what is settled of a picture: the frames marked before it, its own number, its counts and the marks behind it

abbrev pub settled_by : Header → Counts → List Reference → Numbers → ℕ → Option Settled
settled_by header counts frames n indices =
    let number = free_number frames in
    option_map (λ marks. record { frames = frames; number = number; counts = counts; marks = marks })
    (marks_after n (record { number = number; frame_num = n.frame_num; counts = counts }) header frames indices header.marking)

-- None where its marking isn't allowed
unfoldable pub settled_with : Marker → Numbers → Header → Counts → Option Settled
settled_with marker n header counts = option_and_then (λ frames. settled_by header counts frames n marker.indices) (frames_before marker n header)

-- its counts, None where one isn't a number of 32 bits
abbrev pub counts_of : Marker → Sps → Header → Option Counts
counts_of marker sps header = counts_in_range (order_counts sps (max_frame_num sps) marker.orders header)

abbrev pub or_refused : Option Settled → Result Settled MarkFault
or_refused None = Err Refused
or_refused (Some settled) = Ok settled

unfoldable pub settled_of : Marker → Sps → Header → Result Settled MarkFault
settled_of marker sps header =
    if is_gap_fault marker sps header then Err Gap
    else or_refused (option_and_then (settled_with marker (numbers_of sps header) header) (counts_of marker sps header))

-- ---- the picture info, field by field

abbrev pub unused : Reference
unused = record {
  surface = UNUSED_SURFACE;
  is_long_term = false;
  top_is_reference = false;
  bottom_is_reference = false;
  field_order_cnt = pos 0 ∷ pos 0 ∷ [];
  frame_idx = 0;
}

-- an IDR picture has no references
abbrev pub references_of : Header → List Reference → List Reference
references_of header frames =
    let used = if is_idr header then [] else frames in
    used ++ replicate (16 - length used) unused

abbrev pub flat_4x4 : ScalingList4x4
flat_4x4 = record { 0 = replicate 16 16 }

abbrev pub flat_8x8 : ScalingList8x8
flat_8x8 = record { 0 = replicate 64 16 }

abbrev pub info_of : Sps → Pps → Header → Counts → List Reference → PictureInfo
info_of sps pps header counts references = record {
  slice_count = 0;
  field_order_cnt = counts.top ∷ counts.bottom ∷ [];
  is_reference = is_reference header;
  frame_num = header.frame_num;
  field_pic_flag = false;
  bottom_field_flag = false;
  num_ref_frames = sps.max_num_ref_frames;
  mb_adaptive_frame_field_flag = false;
  constrained_intra_pred_flag = pps.constrained_intra_pred_flag;
  weighted_pred_flag = pps.weighted_pred_flag;
  weighted_bipred_idc = pps.weighted_bipred_idc;
  frame_mbs_only_flag = sps.frame_mbs_only_flag;
  transform_8x8_mode_flag = false;
  chroma_qp_index_offset = pps.chroma_qp_index_offset;
  second_chroma_qp_index_offset = pps.chroma_qp_index_offset;
  pic_init_qp_minus26 = pps.pic_init_qp_minus26;
  num_ref_idx_l0_active_minus1 = pps.num_ref_idx_l0_default_active_minus1;
  num_ref_idx_l1_active_minus1 = pps.num_ref_idx_l1_default_active_minus1;
  log2_max_frame_num_minus4 = sps.log2_max_frame_num_minus4;
  pic_order_cnt_type = sps.pic_order_cnt_type;
  log2_max_pic_order_cnt_lsb_minus4 = sps.log2_max_pic_order_cnt_lsb_minus4;
  delta_pic_order_always_zero_flag = sps.delta_pic_order_always_zero_flag;
  direct_8x8_inference_flag = sps.direct_8x8_inference_flag;
  entropy_coding_mode_flag = pps.entropy_coding_mode_flag;
  pic_order_present_flag = pps.bottom_field_pic_order_in_frame_present_flag;
  deblocking_filter_control_present_flag = pps.deblocking_filter_control_present_flag;
  redundant_pic_cnt_present_flag = pps.redundant_pic_cnt_present_flag;
  scaling_lists_4x4 = replicate 6 flat_4x4;
  scaling_lists_8x8 = replicate 2 flat_8x8;
  references = references;
}

-- ---- a picture that begins

-- Its info has the counts and the frame_num that it is decoded with. Its count in its period is 0 after operation 5, which
-- begins a period, as an IDR picture does.
abbrev pub begun_by : Sps → Pps → Header → Settled → Begun
begun_by sps pps header settled = record {
  info = info_of sps pps header settled.counts (references_of header settled.frames);
  poc = if settled.marks.is_reset then pos 0 else least_count settled.counts;
  period = is_idr header || settled.marks.is_reset;
  header = header;
  frame = settled.number;
}

abbrev pub begun_or_fault : Sps → Pps → Header → Result Settled MarkFault → Result Begun MarkFault
begun_or_fault sps pps header (Ok settled) = Ok (begun_by sps pps header settled)
begun_or_fault sps pps header (Err fault) = Err fault

-- the picture that begins, or the fault of its frame number, or of its marking and counts
abbrev pub begun_of : Marker → Sps → Pps → Header → Result Begun MarkFault
begun_of marker sps pps header = begun_or_fault sps pps header (settled_of marker sps header)

-- ---- behind a picture

-- The msb of the last reference picture and its lsb (prevPicOrderCntMsb and prevPicOrderCntLsb, 8.2.1.1): after operation 5
-- these are 0 and its top count.
abbrev pub msb_after : Bool → Header → Counts → ℤ
msb_after is_reset header counts = if is_reset then pos 0 else counts.top -ℤ pos header.poc_lsb

abbrev pub lsb_after : Bool → Header → Counts → ℤ
lsb_after is_reset header counts = if is_reset then (from_zero counts).top else pos header.poc_lsb

abbrev pub orders_after : ℕ → Orders → Header → Bool → Counts → Orders
orders_after max_frame_num orders header is_reset counts = record {
  msb = if is_reference header then msb_after is_reset header counts else orders.msb;
  lsb = if is_reference header then lsb_after is_reset header counts else orders.lsb;
  before_frame_num = if is_reset then 0 else header.frame_num;
  offset = if is_reset then 0 else frame_num_offset max_frame_num orders header;
}

-- What counts as the last reference picture behind one that isn't a reference is the one before it, absent or not: it has the
-- frame number before.
abbrev pub last_frame_num_after : Numbers → Header → Bool → ℕ
last_frame_num_after n header is_reset =
    if is_reference header then (if is_reset then 0 else n.frame_num) else before_frame_num n.max_frame_num n.frame_num

abbrev pub marker_after : Marker → Numbers → Header → Settled → Marker
marker_after marker n header settled = record {
  frames = settled.marks.frames;
  indices = settled.marks.indices;
  last_frame_num = last_frame_num_after n header settled.marks.is_reset;
  orders = orders_after n.max_frame_num marker.orders header settled.marks.is_reset settled.counts;
}
