-- What the slices of a picture are read as, before any is constructed.
use Rattle.std.specs.Prelude.{◌≡◌, ℕ, zero, suc, ◌+◌, ◌<◌, List, [], ◌∷◌, length, take, drop, slice_index_or, Option, Some, None, unwrap_or, pos, false}
use Rattle.cb_types.specs.declared.header.Header.{Header}
use Rattle.cb_types.specs.declared.header.Marking.TheVariants.{Absent}
use Rattle.cb_types.specs.declared.header.UnitHead.{UnitHead}
use Rattle.cb_types.specs.declared.header.Weights.{Weights}
use Rattle.cb_types.specs.declared.macroblock.Macroblock.{Macroblock}
use Rattle.cb_types.specs.declared.mark.MbMark.{MbMark}
use Rattle.cb_types.specs.declared.picture_info.PictureInfo.{PictureInfo}
use Rattle.cb_types.specs.declared.size.SizeMbs.{SizeMbs}
use Rattle.ref_lists.specs.ReferenceList.{reference_list}
use Rattle.ref_lists.specs.declared.list.RefList.{RefList}
use Rattle.slice_header.specs.AcceptedSlices.{IsAcceptedSlice}
use Rattle.vd_plane.specs.declared.tile.Tile.{Tile}
use Rattle.decoder_render.specs.Coverage.{Covered, in_places}
use Rattle.decoder_render.specs.Slices.{SpellsSlice}
use Rattle.decoder_render.specs.Submission.{payload_at}
use Rattle.decoder_render.specs.declared.parsing.ParsedSlice.{ParsedSlice}

-- what stands outside the slices
abbrev pub no_slice : ParsedSlice
no_slice =
    let head : UnitHead = record { ref_idc = 0; unit_type = 0 } in
    let weights : Weights = record { luma_denom = 0; chroma_denom = 0; entries = [] } in
    let list : RefList = record { length = 0; entries = [] } in
    let header : Header = record {
      head = head;
      first_mb = 0;
      slice_type = 0;
      pps = 0;
      frame_num = 0;
      idr_pic_id = 0;
      poc_lsb = 0;
      delta_bottom = pos 0;
      delta_poc = [];
      active_override = None;
      edited = false;
      edit_count = 0;
      edits = [];
      weights = weights;
      marking = Absent;
      qp_delta = pos 0;
      deblock_idc = 0;
      alpha_half = pos 0;
      beta_half = pos 0;
    } in
    record { header = header; list = list; count = 0 }

abbrev pub slice_at : List ParsedSlice → ℕ → ParsedSlice
slice_at slices number = slice_index_or slices number no_slice

-- the header of the first of so many slices
abbrev pub first_header : List ParsedSlice → ℕ → Option Header
first_header slices zero = None
first_header slices (suc count) = Some (slice_at slices 0).header

-- the same of these slices
abbrev pub header_in : List ParsedSlice → Option Header
header_in [] = None
header_in (slice ∷ others) = Some slice.header

-- how many macroblocks the first so many slices have, where the next one begins
unfoldable pub start_of : List ParsedSlice → ℕ → ℕ
start_of slices zero = 0
start_of slices (suc count) = start_of slices count + (slice_at slices count).count

-- The payload spells a slice that fits its picture behind so many macroblocks, and its edits name references.
pub record CanParse (info : PictureInfo) (size : SizeMbs) (first : Option Header) (covered : ℕ) (payload : List ℕ) (header : Header) (list : List (Option ℕ)) (mbs : List Macroblock) : Type 0 where
  pub spelled : SpellsSlice info size payload header mbs
  pub fits : IsAcceptedSlice info (unwrap_or first header) covered header
  pub listed : reference_list info header ≡ Some list

-- The slice is what the payload spells.
pub record IsParsed (info : PictureInfo) (size : SizeMbs) (first : Option Header) (covered : ℕ) (payload : List ℕ) (slice : ParsedSlice) (mbs : List Macroblock) : Type 0 where
  pub list : List (Option ℕ)
  pub parse : CanParse info size first covered payload slice.header list mbs
  pub entries : slice.list.entries ≡ in_places list
  pub count : length mbs ≡ slice.count

-- There is no slice in the unit.
abbrev pub IsUnparsed : PictureInfo → SizeMbs → Option Header → ℕ → Option (List ℕ) → Type 0
IsUnparsed info size first covered None = Unit {0}
IsUnparsed info size first covered (Some payload) =
    (header : Header) (list : List (Option ℕ)) (mbs : List Macroblock) → CanParse info size first covered payload header list mbs → ⊥

-- a slice's macroblocks among the picture's
abbrev pub macroblocks_of : List ParsedSlice → List Macroblock → ℕ → List Macroblock
macroblocks_of slices macroblocks number = take (slice_at slices number).count (drop (start_of slices number) macroblocks)

-- The unit of this number is read as the slice of this number.
pub record IsParsedUnit (info : PictureInfo) (size : SizeMbs) (units : List (Option (List ℕ))) (slices : List ParsedSlice) (macroblocks : List Macroblock) (number : ℕ) : Type 0 where
  pub payload : List ℕ
  pub unit : payload_at units number ≡ Some payload
  pub parsed : IsParsed info size (first_header slices number) (start_of slices number) payload (slice_at slices number) (macroblocks_of slices macroblocks number)

-- So are the first units.
abbrev pub AreParsed : PictureInfo → SizeMbs → List (Option (List ℕ)) → List ParsedSlice → List Macroblock → ℕ → Type 0
AreParsed info size units slices macroblocks count = (number : ℕ) → number < count → IsParsedUnit info size units slices macroblocks number

-- what the first slices cover, with these marks and tiles of the picture
abbrev pub covered_by : List ParsedSlice → List MbMark → List Tile → ℕ → Covered
covered_by slices marks tiles count = record {
  first = first_header slices count;
  marks = take (start_of slices count) marks;
  tiles = take (start_of slices count) tiles;
}
