-- Picture order counts. H.264, 8.2.1.
use Rattle.std.specs.Prelude.{ℕ, ◌+◌, ◌-◌, ◌*◌, ◌/◌, ◌%◌, ◌^◌, nat_lt, ◌==◌, Bool, not, if◌then◌else◌, List, [], ◌∷◌, take, slice_index_or, ℤ, pos, ◌+ℤ◌, ◌-ℤ◌, ◌*ℤ◌, int_le, int_lt}
use Rattle.cb_types.specs.Slices.{is_idr}
use Rattle.cb_types.specs.declared.header.Header.{Header}
use Rattle.param_sets.specs.declared.sps.Sps.{Sps}
use Rattle.marking.specs.declared.counts.Counts.{Counts}
use Rattle.marking.specs.declared.counts.Orders.{Orders}

abbrev pub is_reference : Header → Bool
is_reference header = not (header.head.ref_idc == 0)

-- delta_pic_order_cnt[ 0 ] and [ 1 ]
abbrev pub delta : Header → ℕ → ℤ
delta header k = slice_index_or header.delta_poc k (pos 0)

-- ---- type 0 (8.2.1.1)

abbrev pub max_lsb : Sps → ℕ
max_lsb sps = 2 ^ (sps.log2_max_pic_order_cnt_lsb_minus4 + 4)

-- PicOrderCntMsb, from those of the last reference picture, which are 0 before an IDR picture: it grows where the lsb falls by
-- at least half its range, and shrinks where it rises by more than that
abbrev pub wrapped_msb : ℕ → ℤ → ℤ → ℤ → ℤ
wrapped_msb range msb last lsb =
    if int_le (pos (range / 2)) (last -ℤ lsb) then msb +ℤ pos range
    else if int_lt (pos (range / 2)) (lsb -ℤ last) then msb -ℤ pos range
    else msb

abbrev pub top_by_lsb : Sps → Orders → Header → ℤ
top_by_lsb sps orders header =
    (if is_idr header then wrapped_msb (max_lsb sps) (pos 0) (pos 0) (pos header.poc_lsb)
    else wrapped_msb (max_lsb sps) orders.msb orders.lsb (pos header.poc_lsb)) +ℤ pos header.poc_lsb

abbrev pub counts_by_lsb : Sps → Orders → Header → Counts
counts_by_lsb sps orders header =
    let top = top_by_lsb sps orders header in
    record { top = top; bottom = top +ℤ header.delta_bottom }

-- ---- types 1 and 2 (8.2.1.2 and 8.2.1.3)

-- FrameNumOffset: it grows where frame_num is less than that of the picture before
abbrev pub frame_num_offset : ℕ → Orders → Header → ℕ
frame_num_offset max_frame_num orders header =
    if is_idr header then 0
    else if nat_lt header.frame_num orders.before_frame_num then orders.offset + max_frame_num
    else orders.offset

unfoldable pub total : List ℤ → ℤ
total [] = pos 0
total (x ∷ xs) = x +ℤ total xs

-- the expected count of the a-th frame number (absFrameNum) by a cycle of offsets: whole cycles, and the first offsets of one
abbrev pub expected_count : List ℤ → ℕ → ℕ → ℤ
expected_count offsets cycle a =
    if a == 0 then pos 0
    else (pos ((a - 1) / cycle) *ℤ total (take cycle offsets)) +ℤ total (take ((a - 1) % cycle + 1) offsets)

-- absFrameNum: 0 where the cycle is empty, and one less for a picture that isn't a reference
abbrev pub abs_frame_num : Sps → Header → ℕ → ℕ
abs_frame_num sps header number =
    let a = if sps.num_ref_frames_in_pic_order_cnt_cycle == 0 then 0 else number in
    if is_reference header then a else a - 1

abbrev pub top_by_cycle : Sps → Header → ℕ → ℤ
top_by_cycle sps header number =
    (expected_count sps.offset_for_ref_frame sps.num_ref_frames_in_pic_order_cnt_cycle (abs_frame_num sps header number)
    +ℤ (if is_reference header then pos 0 else sps.offset_for_non_ref_pic)) +ℤ delta header 0

abbrev pub counts_by_cycle : Sps → Header → ℕ → Counts
counts_by_cycle sps header number =
    let top = top_by_cycle sps header number in
    record { top = top; bottom = (top +ℤ sps.offset_for_top_to_bottom_field) +ℤ delta header 1 }

-- output order is decoding order
abbrev pub counts_by_number : Header → ℕ → Counts
counts_by_number header number =
    let count = pos (2 * number) -ℤ (if is_reference header then pos 0 else pos 1) in
    record { top = count; bottom = count }

-- the counts of a picture, by pic_order_cnt_type
abbrev pub order_counts : Sps → ℕ → Orders → Header → Counts
order_counts sps max_frame_num orders header =
    let number = frame_num_offset max_frame_num orders header + header.frame_num in
    if sps.pic_order_cnt_type == 0 then counts_by_lsb sps orders header
    else if sps.pic_order_cnt_type == 1 then counts_by_cycle sps header number
    else counts_by_number header number
