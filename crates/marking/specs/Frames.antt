-- Frames that are marked as used for reference, and the sliding rule. H.264, 8.2.4.1, 8.2.5.2 and 8.2.5.3. A frame is an entry
-- of a picture info: short-term with its frame_num or long-term with its index in frame_idx; its surface is a number of its own,
-- or that of absent frames. Lists of frames stand for sets: their order says nothing.
use Rattle.std.specs.Prelude.{◌≡◌, ◌<◌, ℕ, zero, suc, ◌+◌, ◌-◌, ◌%◌, max, nat_le, nat_lt, ◌==◌, Bool, true, false, not, ◌&&◌, ◌||◌, if◌then◌else◌, List, [], ◌∷◌, ◌++◌, length, remove, ℤ, pos, ◌-ℤ◌, int_le, Option, Some, None}
use Rattle.std.specs.List.{list_all, list_any, position}
use Rattle.std.specs.Option.{option_and_then, option_map}
use Rattle.std.specs.Ordering.{int_eq}
use Rattle.cb_types.specs.declared.picture_info.Reference.{Reference}
use Rattle.cb_types.specs.declared.picture_info.TheConstants.{ABSENT_SURFACE}
use Rattle.marking.specs.declared.numbers.Numbers.{Numbers}

-- a frame_num above the current one was before a wrap (FrameNumWrap, which is PicNum of a short-term frame)
abbrev pub frame_num_wrap : Numbers → ℕ → ℤ
frame_num_wrap n frame_num = if nat_lt n.frame_num frame_num then pos frame_num -ℤ pos n.max_frame_num else pos frame_num

-- the short-term frame with this PicNum
abbrev pub is_short_at : Numbers → ℤ → Reference → Bool
is_short_at n pic_num frame = not frame.is_long_term && int_eq (frame_num_wrap n frame.frame_idx) pic_num

-- the long-term frame with this index (LongTermFrameIdx, which is LongTermPicNum)
abbrev pub is_long_at : ℕ → Reference → Bool
is_long_at index frame = frame.is_long_term && frame.frame_idx == index

-- how many frames are marked at most
abbrev pub most_frames : Numbers → ℕ
most_frames n = max n.max_num_ref_frames 1

-- the short-term frame of least PicNum
abbrev pub is_oldest : Numbers → List Reference → Reference → Bool
is_oldest n frames frame =
    not frame.is_long_term && list_all (λ other. other.is_long_term || int_le (frame_num_wrap n frame.frame_idx) (frame_num_wrap n other.frame_idx)) frames

-- The sliding rule (8.2.5.3): where no more frames may be marked, the short-term one of least PicNum is unmarked. None where
-- there is none.
unfoldable pub slid : Numbers → List Reference → Option (List Reference)
slid n frames =
    if nat_lt (length frames) (most_frames n) then Some frames
    else option_map (λ place. remove frames place) (position (is_oldest n frames) frames)

-- Another short-term frame has the frame_num of this one, which is short-term.
abbrev pub has_same_frame_num : Reference → List Reference → Bool
has_same_frame_num one frames = not one.is_long_term && list_any (λ other. not other.is_long_term && other.frame_idx == one.frame_idx) frames

-- A frame is marked too. None where two short-term frames would have one frame_num, or more frames than may be were marked.
unfoldable pub marked : Numbers → Reference → List Reference → Option (List Reference)
marked n one frames =
    if has_same_frame_num one frames || nat_le (most_frames n) (length frames) then None else Some (frames ++ one ∷ [])

-- a frame that was left out, which has no samples and no order counts
abbrev pub absent_frame : ℕ → Reference
absent_frame frame_num = record {
  surface = ABSENT_SURFACE;
  is_long_term = false;
  top_is_reference = true;
  bottom_is_reference = true;
  field_order_cnt = pos 0 ∷ pos 0 ∷ [];
  frame_idx = frame_num;
}

-- an absent frame is marked, by the sliding rule with its number as the current frame_num
unfoldable pub marked_absent : Numbers → List Reference → Option (List Reference)
marked_absent n frames = option_and_then (marked n (absent_frame n.frame_num)) (slid n frames)

-- the frame number behind this one and the one before it, modulo MaxFrameNum
abbrev pub after_frame_num : ℕ → ℕ → ℕ
after_frame_num max_frame_num frame_num = (frame_num + 1) % max_frame_num

abbrev pub before_frame_num : ℕ → ℕ → ℕ
before_frame_num max_frame_num frame_num = (frame_num + max_frame_num - 1) % max_frame_num

-- A gap (8.2.5.2): an absent frame is marked for each of so many frame numbers, from that of the numbers on.
unfoldable pub filled : ℕ → Numbers → List Reference → Option (List Reference)
filled zero n frames = Some frames
filled (suc missing) n frames =
    option_and_then (filled missing (record n { frame_num = after_frame_num n.max_frame_num n.frame_num })) (marked_absent n frames)

-- the least number from this one on that no frame has as its own, in so many tries
abbrev pub has_number : ℕ → Reference → Bool
has_number number frame = frame.surface == number

unfoldable pub free_number_from : List Reference → ℕ → ℕ → ℕ
free_number_from frames zero number = number
free_number_from frames (suc tries) number = if list_any (has_number number) frames then free_number_from frames tries (number + 1) else number

-- the least number that no frame has: so many frames have no more numbers
abbrev pub free_number : List Reference → ℕ
free_number frames = free_number_from frames (length frames) 0

-- The number is the least that no frame has.
pub record IsLeastFree (frames : List Reference) (number : ℕ) : Type 0 where
  pub free : list_any (has_number number) frames ≡ false
  pub least : (other : ℕ) → other < number → list_any (has_number other) frames ≡ true

abbrev pub FreeNumberIsLeast : Type 0
FreeNumberIsLeast = (frames : List Reference) → IsLeastFree frames (free_number frames)
