-- The slice headers that reading can give with an info, and what it is to read one and to write one.
use Rattle.std.specs.Prelude.{◌≡◌, ◌≢◌, ℕ, ◌+◌, ◌^◌, ◌<◌, ◌≤◌, Bool, List, [], ◌∷◌, length, take, ◌++◌, Option, Some, None, ℤ, pos, negsuc, ◌+ℤ◌, ◌≤ℤ◌, IsTrue, IsFalse, IfSome, All}
use Rattle.bit_io.specs.Codewords.{IsSe, IsUe}
use Rattle.cb_types.specs.AcceptedInfo.{max_frame_num}
use Rattle.cb_types.specs.Slices.{active_entries, is_idr, is_p}
use Rattle.cb_types.specs.declared.header.EntryWeights.{EntryWeights}
use Rattle.cb_types.specs.declared.header.Header.{Header}
use Rattle.cb_types.specs.declared.header.ListEdit.{ListEdit}
use Rattle.cb_types.specs.declared.header.ListEdit.TheVariants.{Add, Long, Subtract}
use Rattle.cb_types.specs.declared.header.Marking.{Marking}
use Rattle.cb_types.specs.declared.header.Marking.TheVariants.{Absent, Idr, Operations, Sliding}
use Rattle.cb_types.specs.declared.header.Mmco.{Mmco}
use Rattle.cb_types.specs.declared.header.Mmco.TheVariants.{CurrentLong, MakeLong, MaxLong, Reset, UnmarkLong, UnmarkShort}
use Rattle.cb_types.specs.declared.header.UnitHead.{UnitHead}
use Rattle.cb_types.specs.declared.header.Weight.{Weight}
use Rattle.cb_types.specs.declared.header.Weights.{Weights}
use Rattle.cb_types.specs.declared.picture_info.PictureInfo.{PictureInfo}
use Rattle.element_tables.specs.Syntax.{Takes}
use Rattle.slice_header.specs.Conditions.{has_bottom, has_delta, has_lsb, has_offsets, has_second_delta, has_weights, is_idr_unit}
use Rattle.slice_header.specs.Lists.{padded}
use Rattle.slice_header.specs.Spelling.{is_slice_type, no_entry, no_weights, slice_header}

-- an array of so many places, with so many values first; what stands in the other places says nothing
pub record AreFirst {A : Type 0} (places : ℕ) (IsValue : A → Type 0) (count : ℕ) (xs : List A) : Type 0 where
  pub most : count ≤ places
  pub long : length xs ≡ places
  pub values : All IsValue (take count xs)

-- delta_pic_order_cnt[ 0 ] and [ 1 ]
pub record AreDeltas (info : PictureInfo) (deltas : List ℤ) : Type 0 where
  pub first : ℤ
  pub second : ℤ
  pub both : deltas ≡ first ∷ second ∷ []
  pub first_value : IsSe first
  pub second_value : IsSe second
  pub first_absent : IsFalse (has_delta info) → first ≡ pos 0
  pub second_absent : IsFalse (has_second_delta info) → second ≡ pos 0

-- ref_pic_list_modification (7.4.3.1)
abbrev pub IsEdit : PictureInfo → ListEdit → Type 0
IsEdit info (Subtract v) = v < max_frame_num info
IsEdit info (Add v) = v < max_frame_num info
IsEdit info (Long v) = IsUe v

-- pred_weight_table (7.4.3.2)
pub record IsWeight (w : Weight) : Type 0 where
  pub weight_least : negsuc 127 ≤ℤ w.weight
  pub weight_most : w.weight ≤ℤ pos 127
  pub offset_least : negsuc 127 ≤ℤ w.offset
  pub offset_most : w.offset ≤ℤ pos 127

pub record AreChroma (weights : List Weight) : Type 0 where
  pub cb : Weight
  pub cr : Weight
  pub both : weights ≡ cb ∷ cr ∷ []
  pub cb_value : IsWeight cb
  pub cr_value : IsWeight cr

pub record IsEntry (e : EntryWeights) : Type 0 where
  pub luma : IfSome e.luma IsWeight
  pub chroma : IfSome e.chroma AreChroma

pub record AreWeights (active : ℕ) (w : Weights) : Type 0 where
  pub luma_denom : w.luma_denom ≤ 7
  pub chroma_denom : w.chroma_denom ≤ 7
  pub entries : AreFirst 16 IsEntry active w.entries

-- dec_ref_pic_marking (7.4.3.3)
abbrev pub IsOperation : Mmco → Type 0
IsOperation (UnmarkShort v) = IsUe v
IsOperation (UnmarkLong v) = IsUe v
IsOperation (MakeLong v w) = IsUe v × IsUe w
IsOperation (MaxLong v) = IsUe v
IsOperation Reset = Unit {0}
IsOperation (CurrentLong v) = IsUe v

abbrev pub IsMarkingOf : UnitHead → Marking → Type 0
IsMarkingOf head Absent = head.ref_idc ≡ 0
IsMarkingOf head (Idr no_output long_term) = (head.ref_idc ≢ 0) × IsTrue (is_idr_unit head)
IsMarkingOf head Sliding = (head.ref_idc ≢ 0) × IsFalse (is_idr_unit head)
IsMarkingOf head (Operations count list) = (head.ref_idc ≢ 0) × IsFalse (is_idr_unit head) × AreFirst 64 IsOperation count list

-- SliceQPY (7.4.3)
abbrev pub slice_qp : PictureInfo → Header → ℤ
slice_qp info header = (pos 26 +ℤ info.pic_init_qp_minus26) +ℤ header.qp_delta

-- The header is one that can be read with the info.
pub record IsHeader (info : PictureInfo) (header : Header) : Type 0 where
  pub first_mb : IsUe header.first_mb
  pub slice_type : IsTrue (is_slice_type header.slice_type)
  pub pps : header.pps ≤ 255
  pub frame_num : header.frame_num < max_frame_num info
  pub idr_pic_id : header.idr_pic_id ≤ 65535
  pub idr_pic_id_absent : IsFalse (is_idr header) → header.idr_pic_id ≡ 0
  pub poc_lsb : header.poc_lsb < 2 ^ (info.log2_max_pic_order_cnt_lsb_minus4 + 4)
  pub poc_lsb_absent : IsFalse (has_lsb info) → header.poc_lsb ≡ 0
  pub delta_bottom : IsSe header.delta_bottom
  pub delta_bottom_absent : IsFalse (has_bottom info) → header.delta_bottom ≡ pos 0
  pub delta_poc : AreDeltas info header.delta_poc
  pub active_override : IfSome header.active_override (λ minus1. minus1 ≤ 15)
  pub active : active_entries info header ≤ 16
  pub active_override_absent : IsFalse (is_p header) → header.active_override ≡ None
  pub edited_absent : IsFalse (is_p header) → IsFalse header.edited
  pub edit_count : header.edit_count ≤ active_entries info header
  pub edits : AreFirst 16 (IsEdit info) header.edit_count header.edits
  pub edits_absent : IsFalse header.edited → header.edit_count ≡ 0
  pub weights : IsTrue (has_weights info header.slice_type) → AreWeights (active_entries info header) header.weights
  pub weights_absent : IsFalse (has_weights info header.slice_type) → header.weights ≡ no_weights
  pub marking : IsMarkingOf header.head header.marking
  pub qp_least : pos 0 ≤ℤ slice_qp info header
  pub qp_most : slice_qp info header ≤ℤ pos 51
  pub deblock_idc : header.deblock_idc ≤ 2
  pub deblock_idc_absent : IsFalse info.deblocking_filter_control_present_flag → header.deblock_idc ≡ 0
  pub alpha_least : negsuc 5 ≤ℤ header.alpha_half
  pub alpha_most : header.alpha_half ≤ℤ pos 6
  pub alpha_absent : IsFalse (has_offsets info header.deblock_idc) → header.alpha_half ≡ pos 0
  pub beta_least : negsuc 5 ≤ℤ header.beta_half
  pub beta_most : header.beta_half ≤ℤ pos 6
  pub beta_absent : IsFalse (has_offsets info header.deblock_idc) → header.beta_half ≡ pos 0

-- ---- what a written header reads back as: places of an array beyond its count have the values that reading gives them

abbrev pub marking_as_read : Marking → Marking
marking_as_read Absent = Absent
marking_as_read (Idr no_output long_term) = Idr no_output long_term
marking_as_read Sliding = Sliding
marking_as_read (Operations count list) = Operations count (padded 64 Reset (take count list))

abbrev pub weights_as_read : ℕ → Weights → Weights
weights_as_read active w = record { luma_denom = w.luma_denom; chroma_denom = w.chroma_denom; entries = padded 16 no_entry (take active w.entries) }

abbrev pub as_read : PictureInfo → Header → Header
as_read info header = record {
  head = header.head;
  first_mb = header.first_mb;
  slice_type = header.slice_type;
  pps = header.pps;
  frame_num = header.frame_num;
  idr_pic_id = header.idr_pic_id;
  poc_lsb = header.poc_lsb;
  delta_bottom = header.delta_bottom;
  delta_poc = header.delta_poc;
  active_override = header.active_override;
  edited = header.edited;
  edit_count = header.edit_count;
  edits = padded 16 (Subtract 0) (take header.edit_count header.edits);
  weights = weights_as_read (active_entries info header) header.weights;
  marking = marking_as_read header.marking;
  qp_delta = header.qp_delta;
  deblock_idc = header.deblock_idc;
  alpha_half = header.alpha_half;
  beta_half = header.beta_half;
}

-- No header of a unit with this first byte begins the bits.
abbrev pub BeginsNoHeader : UnitHead → PictureInfo → List Bool → Type 0
BeginsNoHeader head info bits = (header : Header) (rest : List Bool) → ¬ Takes (slice_header head info) bits header rest

-- What a read answers and leaves, from what was left before: a header whose elements begin it, and they alone are consumed;
-- None where no header begins it, and nothing is consumed.
abbrev pub ReadsHeader : UnitHead → PictureInfo → List Bool → Option Header → List Bool → Type 0
ReadsHeader head info old (Some header) new = Takes (slice_header head info) old header new
ReadsHeader head info old None new = (new ≡ old) × BeginsNoHeader head info old

-- A header whose elements begin what was left is the one that is read.
abbrev pub ReadsOnly : UnitHead → PictureInfo → List Bool → Option Header → List Bool → Type 0
ReadsOnly head info old found new = (header : Header) (rest : List Bool) → Takes (slice_header head info) old header rest → (found ≡ Some header) × (new ≡ rest)

-- Whatever stands behind what is written, a read gives this header and leaves that.
abbrev pub ReadsBack : PictureInfo → Header → List Bool → Type 0
ReadsBack info header written = (rest : List Bool) (found : Option Header) (left : List Bool) → ReadsHeader header.head info (written ++ rest) found left → (found ≡ Some header) × (left ≡ rest)

-- What a write adds reads back.
abbrev pub AddsReadable : PictureInfo → Header → List Bool → List Bool → Type 0
AddsReadable info header old new = (added : List Bool) × (new ≡ old ++ added) × ReadsBack info header added
