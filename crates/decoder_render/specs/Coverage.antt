-- Which units of a picture are accepted, one behind the other, and the marks and samples that they make (H.264, 7.4.3 and clause 8).
use Rattle.std.specs.Prelude.{◌≡◌, ℕ, zero, suc, ◌-◌, List, [], ◌++◌, length, replicate, Option, Some, None, unwrap_or}
use Rattle.cb_types.specs.declared.header.Header.{Header}
use Rattle.cb_types.specs.declared.macroblock.Macroblock.{Macroblock}
use Rattle.cb_types.specs.declared.mark.MbMark.{MbMark}
use Rattle.cb_types.specs.declared.picture_info.PictureInfo.{PictureInfo}
use Rattle.cb_types.specs.declared.size.SizeMbs.{SizeMbs}
use Rattle.recon.specs.Laws.{AreWhole}
use Rattle.recon.specs.Rebuilt.{AreRebuilt}
use Rattle.recon.specs.Slice.{Slice, slice_of}
use Rattle.ref_lists.specs.ReferenceList.{reference_list}
use Rattle.slice_header.specs.AcceptedSlices.{IsAcceptedSlice}
use Rattle.vd_plane.specs.declared.picture.Picture.{Picture}
use Rattle.vd_plane.specs.declared.tile.Tile.{Tile}
use Rattle.decoder_render.specs.Slices.{SpellsSlice}
use Rattle.decoder_render.specs.Submission.{payload_at}

-- What a picture is decoded with: its info, its size, and the reference pictures by their places in the info's references.
pub record Given : Type 0 where
  pub info : PictureInfo
  pub size : SizeMbs
  pub pictures : List (Option Picture)

abbrev pub given : PictureInfo → SizeMbs → List (Option Picture) → Given
given info size pictures = record { info = info; size = size; pictures = pictures }

-- What the first units make of a picture: the header of its first slice, and the marks and constructed samples of the macroblocks
-- that they cover, in the order of addresses from 0.
pub record Covered : Type 0 where
  pub first : Option Header
  pub marks : List MbMark
  pub tiles : List Tile

abbrev pub nothing : Covered
nothing = record { first = None; marks = []; tiles = [] }

-- a reference list with its sixteen places, where the others are empty
abbrev pub in_places : List (Option ℕ) → List (Option ℕ)
in_places list = list ++ replicate (16 - length list) None

-- the slice of this header, this reference list and these macroblocks
abbrev pub slice_in : Given → Header → List (Option ℕ) → List Macroblock → Slice
slice_in g header list mbs = slice_of g.info header (in_places list) g.pictures g.size mbs

-- The unit with this payload is accepted behind those that cover so much: it spells a slice that fits the picture and those before,
-- its edits name references, each reference that it uses is there, isn't an absent frame and has its picture given, each intra mode has
-- the samples that it needs, and each vector lies within the bounds. These are its marks and its samples.
pub record IsNextSlice (g : Given) (covered : Covered) (payload : List ℕ) (header : Header) (list : List (Option ℕ)) (mbs : List Macroblock) (marks : List MbMark) (tiles : List Tile) : Type 0 where
  pub spelled : SpellsSlice g.info g.size payload header mbs
  pub fits : IsAcceptedSlice g.info (unwrap_or covered.first header) (length covered.tiles) header
  pub listed : reference_list g.info header ≡ Some list
  pub of_marks : length marks ≡ length mbs
  pub of_tiles : length tiles ≡ length mbs
  pub whole : AreWhole marks tiles (length mbs)
  pub rebuilt : AreRebuilt (slice_in g header list mbs) marks tiles (length mbs)

abbrev pub covered_with : Covered → Header → List MbMark → List Tile → Covered
covered_with covered header marks tiles = record {
  first = Some (unwrap_or covered.first header);
  marks = covered.marks ++ marks;
  tiles = covered.tiles ++ tiles;
}

-- so much is covered behind it
pub record CoversNext (g : Given) (covered : Covered) (payload : List ℕ) (after : Covered) : Type 0 where
  pub header : Header
  pub list : List (Option ℕ)
  pub mbs : List Macroblock
  pub marks : List MbMark
  pub tiles : List Tile
  pub slice : IsNextSlice g covered payload header list mbs marks tiles
  pub behind : after ≡ covered_with covered header marks tiles

-- a spoiled unit isn't accepted
abbrev pub Covers : Given → Covered → Option (List ℕ) → Covered → Type 0
Covers g covered None after = ⊥
Covers g covered (Some payload) after = CoversNext g covered payload after

-- The unit isn't accepted behind those that cover so much.
abbrev pub IsRefused : Given → Covered → Option (List ℕ) → Type 0
IsRefused g covered unit = (after : Covered) → Covers g covered unit after → ⊥

-- The first so many units are accepted, each behind those before it, and cover so much.
unfoldable pub AreAccepted : Given → List (Option (List ℕ)) → ℕ → Covered → Type 0
AreAccepted g units zero covered = covered ≡ nothing
AreAccepted g units (suc count) covered = (before : Covered) × AreAccepted g units count before × Covers g before (payload_at units count) covered
