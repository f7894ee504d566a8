-- What the slices of a picture come to.
use Rattle.std.proofs.Common.{◌≡◌, ℕ, ◌-◌, ◌<◌, ◌≤◌, List, [], length, take, Option, inl, inr, refl, sym, ap, ◌∙◌, subst, arith}
use Rattle.std.proofs.lemmas.Bool.{cases_lt}
use Rattle.std.proofs.lemmas.List.{length-take-le, take_all}
use Rattle.cb_types.specs.SizeMbs.{macroblocks}
use Rattle.cb_types.specs.declared.mark.MbMark.{MbMark}
use Rattle.cb_types.specs.declared.picture_info.PictureInfo.{PictureInfo}
use Rattle.cb_types.specs.declared.size.SizeMbs.{SizeMbs}
use Rattle.deblock.specs.Deblocked.{deblocked_chroma, deblocked_luma}
use Rattle.vd_plane.specs.Picture.{HasSize}
use Rattle.vd_plane.specs.Tiles.{ShowsTiles}
use Rattle.vd_plane.specs.declared.picture.Picture.{Picture}
use Rattle.vd_plane.specs.declared.tile.Tile.{Tile}
use Rattle.decoder_render.specs.Constructed.{covering}
use Rattle.decoder_render.specs.Coverage.{AreAccepted, given}
use Rattle.decoder_render.specs.Outcomes.{IsDecoded, IsFault, IsOutcome, IsWhole, Lacks}
use Rattle.decoder_render.specs.Parsed.{IsUnparsed, covered_by, first_header, start_of}
use Rattle.decoder_render.specs.Submission.{payload_at}
use Rattle.decoder_render.specs.declared.outcome.Outcome.{Outcome}
use Rattle.decoder_render.specs.declared.outcome.Outcome.TheVariants as outcomes
use Rattle.decoder_render.specs.declared.parsing.ParsedSlice.{ParsedSlice}
use Rattle.decoder_render.proofs.CoverLemmas.{unparsed_refused}

module _ (info : PictureInfo) (size : SizeMbs) (pictures : List (Option Picture)) (units : List (Option (List ℕ))) (slices : List ParsedSlice) (marks : List MbMark) (tiles : List Tile) (count : ℕ) where
  module _ (of_tiles : length tiles ≡ macroblocks size) (of_marks : length marks ≡ macroblocks size) (inside : start_of slices count ≤ macroblocks size) (accepted : AreAccepted (given info size pictures) units count (covered_by slices marks tiles count)) where
    so_many : length (take (start_of slices count) tiles) ≡ start_of slices count
    so_many = length-take-le (start_of slices count) tiles (omega (arith, of_tiles, inside))

    -- the unit behind those that are accepted has no slice
    pub unit_fails : count < length units → IsUnparsed info size (first_header slices count) (start_of slices count) (payload_at units count) → IsFault (given info size pictures) units count
    unit_fails within none = record {
      within = within;
      covered = covered_by slices marks tiles count;
      before = accepted;
      refused = unparsed_refused info size pictures (first_header slices count) (start_of slices count) (payload_at units count) (covered_by slices marks tiles count) refl so_many none;
    }

    -- all units are accepted, and macroblocks are missing
    pub some_lack : (missing : ℕ) → count ≡ length units → 1 ≤ missing → missing ≡ macroblocks size - start_of slices count → Lacks (given info size pictures) units missing
    some_lack missing all some is = record {
      covered = covered_by slices marks tiles count;
      accepted = subst (λ (n : ℕ). AreAccepted (given info size pictures) units n (covered_by slices marks tiles count)) all accepted;
      some = some;
      count = omega (arith, so_many, is, inside);
    }

    -- all units are accepted, and none is missing
    pub all_there : count ≡ length units → start_of slices count ≡ macroblocks size → (made picture : Picture) → HasSize made size → ShowsTiles tiles size.width made
        → picture.y ≡ deblocked_luma size marks made.y → picture.cb ≡ deblocked_chroma info.chroma_qp_index_offset size marks made.cb → picture.cr ≡ deblocked_chroma info.chroma_qp_index_offset size marks made.cr
        → IsWhole (given info size pictures) units picture
    all_there all full made picture has shows y cb cr =
        let same_marks : take (start_of slices count) marks ≡ marks = take_all (start_of slices count) marks (omega (arith, full, of_marks)) in
        let same_tiles : take (start_of slices count) tiles ≡ tiles = take_all (start_of slices count) tiles (omega (arith, full, of_tiles)) in
        record {
          covered = covered_by slices marks tiles count;
          accepted = subst (λ (n : ℕ). AreAccepted (given info size pictures) units n (covered_by slices marks tiles count)) all accepted;
          all = so_many ∙ full;
          decoded = record {
            constructed = made;
            size = has;
            shows = subst (λ (t : List Tile). ShowsTiles t size.width made) (sym same_tiles) shows;
            y = y ∙ ap (λ (m : List MbMark). deblocked_luma size m made.y) (sym same_marks);
            cb = cb ∙ ap (λ (m : List MbMark). deblocked_chroma info.chroma_qp_index_offset size m made.cb) (sym same_marks);
            cr = cr ∙ ap (λ (m : List MbMark). deblocked_chroma info.chroma_qp_index_offset size m made.cr) (sym same_marks);
          };
        }

    -- what the work behind the construction answers is the outcome
    pub finished_outcome : (outcome : Outcome) (picture : Picture) (covered : ℕ) → covered ≡ start_of slices count → count ≤ length units
        → (count < length units → outcome ≡ outcomes.Bitstream count)
        → (count ≡ length units → covered < macroblocks size → outcome ≡ outcomes.Incomplete (macroblocks size - covered))
        → (count ≡ length units → covered ≡ macroblocks size → outcome ≡ outcomes.Ok)
        → (count ≡ length units → covered ≡ macroblocks size → IsDecoded (given info size []) (covering marks tiles) picture)
        → (count < length units → IsUnparsed info size (first_header slices count) covered (payload_at units count))
        → IsOutcome (given info size pictures) units outcome picture
    finished_outcome outcome picture covered is within unread lacking whole decoded none =
        let P : Outcome → Type 0 = λ o. IsOutcome (given info size pictures) units o picture in
        elim (cases_lt count (length units)) [
          | inl less ↦
              let unparsed = subst (λ (k : ℕ). IsUnparsed info size (first_header slices count) k (payload_at units count)) is (none less) in
              subst P (sym (unread less)) (unit_fails less unparsed)
          | inr le ↦
              let all : count ≡ length units = omega (arith, le, within) in
              elim (cases_lt covered (macroblocks size)) [
                | inl less ↦ subst P (sym (lacking all less)) (some_lack (macroblocks size - covered) all (omega (arith, less)) (omega (arith, is)))
                | inr more ↦
                    let full : covered ≡ macroblocks size = omega (arith, more, is, inside) in
                    let d = decoded all full in
                    subst P (sym (whole all full)) (all_there all (sym is ∙ full) d.constructed picture d.size d.shows d.y d.cb d.cr)
              ]
        ]
