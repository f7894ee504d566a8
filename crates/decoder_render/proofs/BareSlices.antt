-- A slice is spelled, accepted and constructed alike with an info whose references are alike but for their names.
use Rattle.std.proofs.Common.{◌≡◌, ℕ, Bool, true, cond, not, is_some, get_or, List, map, Option, Some, None, refl, sym, ap, ◌∙◌}
use Rattle.std.proofs.Math.ListN.{get_or-map}
use Rattle.cb_types.specs.References.{is_absent}
use Rattle.cb_types.specs.declared.header.Header.{Header}
use Rattle.cb_types.specs.declared.header.UnitHead.{UnitHead}
use Rattle.cb_types.specs.declared.macroblock.Macroblock.{Macroblock}
use Rattle.cb_types.specs.declared.mark.MbMark.{MbMark}
use Rattle.cb_types.specs.declared.picture_info.PictureInfo.{PictureInfo}
use Rattle.cb_types.specs.declared.picture_info.Reference.{Reference}
use Rattle.cb_types.specs.declared.size.SizeMbs.{SizeMbs}
use Rattle.motion.specs.Partitions.{partition_of}
use Rattle.recon.specs.Inter.{inter_cb, inter_cr, inter_luma}
use Rattle.recon.specs.Quantizer.{qp_before}
use Rattle.recon.specs.Rebuilt.{AreRebuilt, IsRebuilt}
use Rattle.recon.specs.References.{is_lacking, is_place_lacking, no_reference, place_of, reference_at}
use Rattle.recon.specs.Slice.{Slice, kind_at}
use Rattle.slice_header.specs.AcceptedSlices.{IsAcceptedSlice}
use Rattle.slice_header.specs.Spelling.{filter, numbers, orders, references, slice_header}
use Rattle.vd_plane.specs.declared.picture.Picture.{Picture}
use Rattle.vd_plane.specs.declared.tile.Tile.{Tile}
use Rattle.decoder_render.specs.Coverage.{given, slice_in}
use Rattle.decoder_render.specs.Renamed.{with_references}
use Rattle.decoder_render.specs.Slices.{SpellsSlice}
use Rattle.decoder_render.proofs.BareEntries.{bare, bare_absent}

module _ (info : PictureInfo) (entries : List Reference) where
  -- the elements of a header
  header_same : (head : UnitHead) → slice_header head info ≡ slice_header head (with_references info entries)
  unfolding slice_header numbers orders references filter
  header_same head = refl

  pub spells_same : (size : SizeMbs) (payload : List ℕ) (header : Header) (mbs : List Macroblock)
      → SpellsSlice info size payload header mbs → SpellsSlice (with_references info entries) size payload header mbs
  unfolding slice_header numbers orders references filter
  spells_same size payload header mbs is = record { first = is.first; rest = is.rest; elements = is.elements; macroblocks = is.macroblocks }

  pub fits_same : (first : Header) (covered : ℕ) (header : Header) → IsAcceptedSlice info first covered header → IsAcceptedSlice (with_references info entries) first covered header
  fits_same first covered header is = record {
    frame_num = is.frame_num;
    reference = is.reference;
    unit_type = is.unit_type;
    idr = is.idr;
    alike = is.alike;
    pps = is.pps;
    first_mb = is.first_mb;
  }

-- ---- what is asked of the entries

at_place : (info : PictureInfo) (entries : List Reference) (place : ℕ) → map bare info.references ≡ map bare entries → bare (reference_at info place) ≡ bare (reference_at (with_references info entries) place)
at_place info entries place alike =
    sym (get_or-map bare info.references place no_reference)
    ∙ (ap (λ (bared : List Reference). reference_at (with_references info bared) place) alike ∙ get_or-map bare entries place no_reference)

module _ (info : PictureInfo) (entries : List Reference) (alike : map bare info.references ≡ map bare entries) where
  absent_same : (place : ℕ) → is_absent (reference_at info place) ≡ is_absent (reference_at (with_references info entries) place)
  absent_same place =
      sym (bare_absent (reference_at info place))
      ∙ (ap (λ (entry : Reference). is_absent entry) (at_place info entries place alike) ∙ bare_absent (reference_at (with_references info entries) place))

  place_same : (pictures : List (Option Picture)) (place : Option ℕ) → is_place_lacking info pictures place ≡ is_place_lacking (with_references info entries) pictures place
  place_same pictures None = refl
  place_same pictures (Some place) = ap (λ (absent : Bool). cond absent true (not (is_some (get_or pictures place None)))) (absent_same place)

  pub lacking_same : (list : List (Option ℕ)) (pictures : List (Option Picture)) (entry : ℕ) → is_lacking info list pictures entry ≡ is_lacking (with_references info entries) list pictures entry
  lacking_same list pictures entry = place_same pictures (place_of list entry)

  -- ---- construction

  module _ (size : SizeMbs) (pictures : List (Option Picture)) (header : Header) (list : List (Option ℕ)) (mbs : List Macroblock) where
    abbrev old : Slice
    old = slice_in (given info size pictures) header list mbs

    abbrev new : Slice
    new = slice_in (given (with_references info entries) size pictures) header list mbs

    rebuilt_one : (marks : List MbMark) (tiles : List Tile) (number : ℕ) → IsRebuilt old marks tiles number → IsRebuilt new marks tiles number
    unfolding qp_before inter_luma inter_cb inter_cr
    rebuilt_one marks tiles number is = record {
      mark = is.mark;
      vectors = is.vectors;
      pictures = λ inter block inside. sym (lacking_same old.list old.pictures (partition_of (kind_at old number) block).reference) ∙ is.pictures inter block inside;
      samples = is.samples;
      tile = record { y = is.tile.y; cb = is.tile.cb; cr = is.tile.cr };
    }

    pub rebuilt_same : (marks : List MbMark) (tiles : List Tile) (count : ℕ) → AreRebuilt old marks tiles count → AreRebuilt new marks tiles count
    rebuilt_same marks tiles count are number inside = rebuilt_one marks tiles number (are number inside)
