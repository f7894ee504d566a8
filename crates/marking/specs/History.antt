-- Which pictures a marker stands for.
use Rattle.std.specs.Prelude.{◌≡◌, ◌≢◌, ◌⊎◌, ℕ, ◌*◌, ◌^◌, ◌<◌, ◌≤◌, Bool, true, false, List, [], ◌∷◌, ◌++◌, length, All, pos, negsuc, ◌≤ℤ◌, Option, Some, None, Result, Ok, Err, unwrap_or}
use Rattle.std.specs.List.{list_all, list_any}
use Rattle.std.specs.Option.{option_and_then, option_map_or}
use Rattle.cb_types.specs.AcceptedInfo.{are_all_apart, is_reference_accepted}
use Rattle.cb_types.specs.References.{is_absent, is_unused}
use Rattle.cb_types.specs.Slices.{is_idr}
use Rattle.cb_types.specs.declared.header.Header.{Header}
use Rattle.cb_types.specs.declared.header.Marking.{Marking}
use Rattle.cb_types.specs.declared.header.Marking.TheVariants.{Absent, Idr, Operations, Sliding}
use Rattle.cb_types.specs.declared.picture_info.Reference.{Reference}
use Rattle.param_sets.specs.Accepted.{IsAcceptedPps, IsAcceptedSps}
use Rattle.param_sets.specs.declared.pps.Pps.{Pps}
use Rattle.param_sets.specs.declared.sps.Sps.{Sps}
use Rattle.marking.specs.Operations.{HasRoom}
use Rattle.marking.specs.Begun.{marker_after, max_frame_num, numbers_of, settled_of}
use Rattle.marking.specs.declared.begun.MarkFault.{MarkFault}
use Rattle.marking.specs.declared.marker.Marker.{Marker}
use Rattle.marking.specs.declared.marker.Settled.{Settled}

-- a picture: the header of its first slice, and the sequence set that it is of
pub record Picture : Type 0 where
  pub sps : Sps
  pub header : Header

-- No picture was finished before: no frame is marked.
abbrev pub no_pictures : Marker
no_pictures = record { frames = []; indices = 0; last_frame_num = 0; orders = record { msb = pos 0; lsb = pos 0; before_frame_num = 0; offset = 0 } }

abbrev pub after_settled : Marker → Picture → Result Settled MarkFault → Option Marker
after_settled marker picture (Ok settled) = Some (marker_after marker (numbers_of picture.sps picture.header) picture.header settled)
after_settled marker picture (Err fault) = None

-- what is marked behind one more picture, None where it is refused
abbrev pub after_picture : Picture → Marker → Option Marker
after_picture picture marker = after_settled marker picture (settled_of marker picture.sps picture.header)

-- behind each of these pictures in turn
unfoldable pub after_pictures : List Picture → Marker → Option Marker
after_pictures [] marker = Some marker
after_pictures (picture ∷ pictures) marker = option_and_then (after_pictures pictures) (after_picture picture marker)

-- the numbers that a marker keeps, behind so many pictures
pub record HasRanges (marker : Marker) (pictures : ℕ) : Type 0 where
  pub indices : marker.indices ≤ 16
  pub last_frame_num : marker.last_frame_num < 2 ^ 16
  pub msb_least : negsuc (2 ^ 33) ≤ℤ marker.orders.msb
  pub msb_most : marker.orders.msb ≤ℤ pos (2 ^ 32)
  pub lsb_least : pos 0 ≤ℤ marker.orders.lsb
  pub lsb_most : marker.orders.lsb ≤ℤ pos (2 ^ 32)
  pub before_frame_num : marker.orders.before_frame_num < 2 ^ 16
  pub offset : marker.orders.offset ≤ 65536 * pictures

-- the sequence set of the last picture, None where there is no picture
abbrev pub last_sps : List Picture → Option Sps
last_sps [] = None
last_sps (picture ∷ pictures) = Some (unwrap_or (last_sps pictures) picture.sps)

-- MaxFrameNum of the last picture, 0 where there is no picture
abbrev pub last_max_frame_num : List Picture → ℕ
last_max_frame_num pictures = option_map_or max_frame_num (last_sps pictures) 0

-- Frames that are marked, where frame_nums is MaxFrameNum: 16 at most, each with samples or absent, and each one that a decoder
-- takes as a reference. So both fields of each are references, the frame_num of a short-term one is below MaxFrameNum, the
-- index of a long-term one is at most 15, and absent ones are short-term. No two of them have one surface, but absent ones, and
-- no two of one kind have one frame_num or index.
pub record AreMarked (frame_nums : ℕ) (frames : List Reference) : Type 0 where
  pub most : length frames ≤ 16
  pub used : list_any is_unused frames ≡ false
  pub accepted : list_all (is_reference_accepted frame_nums) frames ≡ true
  pub apart : are_all_apart frames ≡ true

-- ---- which pictures the marked frames are

-- its first slice is one of an IDR picture
abbrev pub is_of_idr : Picture → Bool
is_of_idr picture = is_idr picture.header

-- the own number of what is settled
abbrev pub number_of : Result Settled MarkFault → Option ℕ
number_of (Ok settled) = Some settled.number
number_of (Err fault) = None

-- the own number of a picture behind earlier ones, None where it or one of them is refused
abbrev pub own_number : List Picture → Picture → Option ℕ
own_number earlier picture = option_and_then (λ marker. number_of (settled_of marker picture.sps picture.header)) (after_pictures earlier no_pictures)

-- A surface names one of these pictures: it is the picture's own number, and no later one is IDR or has that number. So the
-- picture is the last one with that number, and is of the sequence of the last one of all.
pub record IsNamed (pictures : List Picture) (surface : ℕ) : Type 0 where
  pub earlier : List Picture
  pub picture : Picture
  pub later : List Picture
  pub are_all : pictures ≡ earlier ++ picture ∷ later
  pub own : own_number earlier picture ≡ Some surface
  pub one_sequence : list_any is_of_idr later ≡ false
  pub last : (between : List Picture) (other : Picture) (behind : List Picture) → later ≡ between ++ other ∷ behind → own_number (earlier ++ picture ∷ between) other ≢ Some surface

-- the surface of each of these frames names a picture, but that of absent ones and of entries that aren't used
abbrev pub AreNamed : List Picture → List Reference → Type 0
AreNamed pictures frames = All (λ frame. is_unused frame ≡ false → is_absent frame ≡ false → IsNamed pictures frame.surface) frames

-- None of these entries has this number as its surface.
abbrev pub AreApartFrom : ℕ → List Reference → Type 0
AreApartFrom number entries = All (λ entry. entry.surface ≢ number) entries

-- a surface that named a picture before one more picture, and still does
pub record StaysNamed (pictures : List Picture) (picture : Picture) (surface : ℕ) : Type 0 where
  pub before : IsNamed pictures surface
  pub not_idr : is_of_idr picture ≡ false
  pub other : own_number pictures picture ≢ Some surface

-- What names a picture behind one more picture is that picture's own number, or named a picture before.
abbrev pub NamedBehind : Type 0
NamedBehind = (pictures : List Picture) (picture : Picture) (surface : ℕ) → IsNamed (pictures ++ picture ∷ []) surface → (own_number pictures picture ≡ Some surface) ⊎ StaysNamed pictures picture surface

-- ---- what a marker stands for

-- The marker stands for these pictures: it is what is marked behind them.
pub record StandsFor (marker : Marker) (pictures : List Picture) : Type 0 where
  pub after : after_pictures pictures no_pictures ≡ Some marker
  pub ranges : HasRanges marker (length pictures)
  pub frames : AreMarked (last_max_frame_num pictures) marker.frames
  pub named : AreNamed pictures marker.frames

-- the marking of an IDR picture, or none, where it isn't a reference
abbrev pub is_marking_of_idr : Marking → Bool
is_marking_of_idr Absent = true
is_marking_of_idr (Idr no_output long_term) = true
is_marking_of_idr Sliding = false
is_marking_of_idr (Operations count operations) = false

-- A picture may begin behind these: its sets are ones that can be read, its header's frame_num is below MaxFrameNum, and its
-- operations have room; fewer than 2^32 pictures were finished. Only an IDR picture is the first one or of another sequence set
-- than the picture before (7.4.1.2.1), and it has the marking of one.
pub record MayBegin (pictures : List Picture) (sps : Sps) (pps : Pps) (header : Header) : Type 0 where
  pub sps_accepted : IsAcceptedSps sps
  pub pps_accepted : IsAcceptedPps pps
  pub frame_num : header.frame_num < max_frame_num sps
  pub operations : HasRoom header.marking
  pub few : length pictures < 2 ^ 32
  pub sequence : is_idr header ≡ false → last_sps pictures ≡ Some sps
  pub marking : is_idr header ≡ true → is_marking_of_idr header.marking ≡ true
