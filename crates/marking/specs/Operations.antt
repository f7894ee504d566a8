-- Memory management control operations. H.264, 8.2.5.4.
use Rattle.std.specs.Prelude.{ℕ, ◌+◌, ◌<◌, ◌≤◌, nat_le, nat_lt, ◌==◌, Bool, true, false, not, ◌&&◌, ◌||◌, if◌then◌else◌, List, [], ◌∷◌, filter, remove, take, slice_index_or, slice_set, ℤ, pos, negsuc, ◌-ℤ◌, int_le, Option, Some, None, is_some, unwrap_or, IfSome}
use Rattle.std.specs.List.{position}
use Rattle.std.specs.Int.{int_min}
use Rattle.std.specs.Option.{option_and_then, option_map}
use Rattle.cb_types.specs.References.{is_absent}
use Rattle.cb_types.specs.Slices.{is_idr}
use Rattle.cb_types.specs.declared.header.Header.{Header}
use Rattle.cb_types.specs.declared.header.Marking.{Marking}
use Rattle.cb_types.specs.declared.header.Marking.TheVariants.{Absent, Idr, Operations, Sliding}
use Rattle.cb_types.specs.declared.header.Mmco.{Mmco}
use Rattle.cb_types.specs.declared.header.Mmco.TheVariants.{CurrentLong, MakeLong, MaxLong, Reset, UnmarkLong, UnmarkShort}
use Rattle.cb_types.specs.declared.picture_info.Reference.{Reference}
use Rattle.marking.specs.Frames.{is_long_at, is_short_at, marked, slid}
use Rattle.marking.specs.declared.counts.Counts.{Counts}
use Rattle.marking.specs.declared.marks.Marks.{Marks}
use Rattle.marking.specs.declared.marks.Own.{Own}
use Rattle.marking.specs.declared.numbers.Numbers.{Numbers}

-- the PicNum that an operation names (picNumX, 8.2.5.4.1)
abbrev pub named_pic_num : Numbers → ℕ → ℤ
named_pic_num n minus1 = pos n.frame_num -ℤ pos (minus1 + 1)

-- no long-term frame keeps the index
abbrev pub without_index : ℕ → List Reference → List Reference
without_index index frames = filter (λ frame. not (is_long_at index frame)) frames

-- long-term frames keep only indices below this
abbrev pub with_indices_below : ℕ → List Reference → List Reference
with_indices_below indices frames = filter (λ frame. not frame.is_long_term || nat_lt frame.frame_idx indices) frames

-- the picture itself has the index
abbrev pub has_index : ℕ → Option ℕ → Bool
has_index index None = false
has_index index (Some own) = own == index

abbrev pub index_without : ℕ → Option ℕ → Option ℕ
index_without index own = if has_index index own then None else own

abbrev pub index_below : ℕ → Option ℕ → Option ℕ
index_below indices None = None
index_below indices (Some own) = if nat_lt own indices then Some own else None

-- what stands outside a list of frames
abbrev pub no_frame : Reference
no_frame = record { surface = 0; is_long_term = false; top_is_reference = false; bottom_is_reference = false; field_order_cnt = []; frame_idx = 0 }

-- The short-term frame at a place gets the index, which was freed before. None where it is an absent one.
unfoldable pub made_long : Marks → ℕ → List Reference → ℕ → Option Marks
made_long m index freed place =
    let frame = slice_index_or freed place no_frame in
    if is_absent frame then None
    else Some (record m {
      frames = slice_set freed place (record frame { is_long_term = true; frame_idx = index });
      current = index_without index m.current;
    })

-- What an operation does, where the picture itself, once it is long-term, is one of the marked frames. None where it names no
-- marked frame or an index that isn't allowed, makes an absent frame long-term, or allows more indices than frames.
unfoldable pub operated : Numbers → Marks → Mmco → Option Marks
operated n m (UnmarkShort minus1) = option_map (λ place. record m { frames = remove m.frames place }) (position (is_short_at n (named_pic_num n minus1)) m.frames)
operated n m (UnmarkLong index) =
    if has_index index m.current then Some (record m { current = None })
    else option_map (λ place. record m { frames = remove m.frames place }) (position (is_long_at index) m.frames)
operated n m (MakeLong minus1 index) =
    if nat_lt index m.indices then (
    let freed = without_index index m.frames in
    option_and_then (made_long m index freed) (position (is_short_at n (named_pic_num n minus1)) freed))
    else None
operated n m (MaxLong indices) =
    if nat_le indices n.max_num_ref_frames then Some (record m {
      frames = with_indices_below indices m.frames;
      current = index_below indices m.current;
      indices = indices;
    })
    else None
operated n m Reset = Some (record { frames = []; current = None; indices = 0; is_reset = true })
operated n m (CurrentLong index) =
    if nat_lt index m.indices then Some (record m { frames = without_index index m.frames; current = Some index }) else None

unfoldable pub operated_by_all : Numbers → List Mmco → Marks → Option Marks
operated_by_all n [] m = Some m
operated_by_all n (operation ∷ operations) m = option_and_then (operated_by_all n operations) (operated n m operation)

-- After operation 5 the picture has frame_num 0, and its counts are less by the smaller of them (8.2.1).
abbrev pub least_count : Counts → ℤ
least_count counts = int_min counts.top counts.bottom

abbrev pub from_zero : Counts → Counts
from_zero counts = record { top = counts.top -ℤ least_count counts; bottom = counts.bottom -ℤ least_count counts }

abbrev pub own_counts : Bool → Counts → Counts
own_counts is_reset counts = if is_reset then from_zero counts else counts

-- the picture itself as a marked frame, long-term where it has an index
abbrev pub own_frame : Own → Bool → Option ℕ → Reference
own_frame own is_reset current =
    let counts = own_counts is_reset own.counts in
    record {
      surface = own.number;
      is_long_term = is_some current;
      top_is_reference = true;
      bottom_is_reference = true;
      field_order_cnt = counts.top ∷ counts.bottom ∷ [];
      frame_idx = unwrap_or current (if is_reset then 0 else own.frame_num);
    }

-- both counts are numbers of 32 bits
abbrev pub is_in_range : ℤ → Bool
is_in_range count = int_le (negsuc 2147483647) count && int_le count (pos 2147483647)

abbrev pub are_in_range : Counts → Bool
are_in_range counts = is_in_range counts.top && is_in_range counts.bottom

-- the counts, None where one isn't such a number
abbrev pub counts_in_range : Counts → Option Counts
counts_in_range counts = if are_in_range counts then Some counts else None

-- The picture itself is marked behind the operations. None also where its counts don't stay in range.
unfoldable pub with_own : Numbers → Own → Marks → Option Marks
with_own n own m =
    if not (are_in_range (own_counts m.is_reset own.counts)) then None
    else option_map (λ frames. record m { frames = frames }) (marked n (own_frame own m.is_reset m.current) m.frames)

-- the marks before operations
abbrev pub marks_of : List Reference → ℕ → Marks
marks_of frames indices = record { frames = frames; current = None; indices = indices; is_reset = false }

-- behind an IDR picture it alone is marked, long-term with index 0, the only one allowed, or short-term with none allowed
abbrev pub marks_of_idr : Own → Bool → Marks
marks_of_idr own long_term =
    let current = if long_term then Some 0 else None in
    record {
      frames = own_frame own false current ∷ [];
      current = current;
      indices = if long_term then 1 else 0;
      is_reset = false;
    }

-- The marks after a picture (8.2.5.1), from the frames marked before it and how many indices are allowed. None where the
-- marking isn't allowed, and at an IDR picture that isn't a reference.
unfoldable pub marks_after : Numbers → Own → Header → List Reference → ℕ → Marking → Option Marks
marks_after n own header frames indices Absent = if is_idr header then None else Some (marks_of frames indices)
marks_after n own header frames indices (Idr no_output long_term) = Some (marks_of_idr own long_term)
marks_after n own header frames indices Sliding = option_and_then (λ left. with_own n own (marks_of left indices)) (slid n frames)
marks_after n own header frames indices (Operations count operations) =
    option_and_then (with_own n own) (operated_by_all n (take count operations) (marks_of frames indices))

-- A header's operations have room in its list.
abbrev pub HasRoom : Marking → Type 0
HasRoom Absent = Unit {0}
HasRoom (Idr no_output long_term) = Unit {0}
HasRoom Sliding = Unit {0}
HasRoom (Operations count operations) = count ≤ 64

-- No more indices are allowed than there may be frames, and the picture's own is one of them.
pub record HasIndices (m : Marks) : Type 0 where
  pub most : m.indices ≤ 16
  pub own : IfSome m.current (λ index. index < 16)
