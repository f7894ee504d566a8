-- What a picture's units come to with an info, they come to with one whose references are alike but for their names.
use Rattle.std.proofs.Common.{◌≡◌, ℕ, zero, suc, List, length, map, unwrap_or, Option, Some, None, sym, ◌∙◌}
use Rattle.cb_types.specs.declared.picture_info.PictureInfo.{PictureInfo}
use Rattle.cb_types.specs.declared.picture_info.Reference.{Reference}
use Rattle.cb_types.specs.declared.size.SizeMbs.{SizeMbs}
use Rattle.vd_plane.specs.declared.picture.Picture.{Picture}
use Rattle.decoder_render.specs.Coverage.{AreAccepted, Covered, Covers, CoversNext, IsRefused, given}
use Rattle.decoder_render.specs.Outcomes.{IsDecoded, IsOutcome}
use Rattle.decoder_render.specs.Renamed.{with_references}
use Rattle.decoder_render.specs.Submission.{payload_at}
use Rattle.decoder_render.specs.declared.outcome.Outcome.{Outcome}
use Rattle.decoder_render.specs.declared.outcome.Outcome.TheVariants as outcome
use Rattle.decoder_render.proofs.BareEntries.{bare}
use Rattle.decoder_render.proofs.BareLists.{list_same}
use Rattle.decoder_render.proofs.BareSlices.{fits_same, rebuilt_same, spells_same}

module _ (size : SizeMbs) (pictures : List (Option Picture)) where
  next_same : (info : PictureInfo) (entries : List Reference) → map bare info.references ≡ map bare entries → (covered : Covered) (payload : List ℕ) (after : Covered)
      → CoversNext (given info size pictures) covered payload after → CoversNext (given (with_references info entries) size pictures) covered payload after
  next_same info entries alike covered payload after next =
      let is = next.slice in
      record {
        header = next.header;
        list = next.list;
        mbs = next.mbs;
        marks = next.marks;
        tiles = next.tiles;
        slice = record {
          spelled = spells_same info entries size payload next.header next.mbs is.spelled;
          fits = fits_same info entries (unwrap_or covered.first next.header) (length covered.tiles) next.header is.fits;
          listed = sym (list_same info entries next.header alike) ∙ is.listed;
          of_marks = is.of_marks;
          of_tiles = is.of_tiles;
          whole = is.whole;
          rebuilt = rebuilt_same info entries alike size pictures next.header next.list next.mbs next.marks next.tiles (length next.mbs) is.rebuilt;
        };
        behind = next.behind;
      }

  covers_same : (info : PictureInfo) (entries : List Reference) → map bare info.references ≡ map bare entries → (covered : Covered) (unit : Option (List ℕ)) (after : Covered)
      → Covers (given info size pictures) covered unit after → Covers (given (with_references info entries) size pictures) covered unit after
  covers_same info entries alike covered None after next = next
  covers_same info entries alike covered (Some payload) after next = next_same info entries alike covered payload after next

  accepted_same : (info : PictureInfo) (entries : List Reference) → map bare info.references ≡ map bare entries → (units : List (Option (List ℕ))) (count : ℕ) (covered : Covered)
      → AreAccepted (given info size pictures) units count covered → AreAccepted (given (with_references info entries) size pictures) units count covered
  unfolding AreAccepted
  accepted_same info entries alike units zero covered are = are
  accepted_same info entries alike units (suc count) covered are =
      (are.0, accepted_same info entries alike units count are.0 are.1, covers_same info entries alike are.0 (payload_at units count) covered are.2)

  module _ (info : PictureInfo) (entries : List Reference) (alike : map bare info.references ≡ map bare entries) where
    abbrev new : PictureInfo
    new = with_references info entries

    -- what is accepted with the new info is with the old one
    refused_same : (covered : Covered) (unit : Option (List ℕ)) → IsRefused (given info size pictures) covered unit → IsRefused (given new size pictures) covered unit
    refused_same covered unit refused after next = refused after (covers_same new info.references (sym alike) covered unit after next)

    decoded_same : (covered : Covered) (picture : Picture) → IsDecoded (given info size pictures) covered picture → IsDecoded (given new size pictures) covered picture
    decoded_same covered picture is = record {
      constructed = is.constructed;
      size = is.size;
      shows = is.shows;
      y = is.y;
      cb = is.cb;
      cr = is.cr;
    }

    pub outcome_same : (units : List (Option (List ℕ))) (answer : Outcome) (picture : Picture) → IsOutcome (given info size pictures) units answer picture → IsOutcome (given new size pictures) units answer picture
    outcome_same units outcome.Ok picture is = record {
      covered = is.covered;
      accepted = accepted_same info entries alike units (length units) is.covered is.accepted;
      all = is.all;
      decoded = decoded_same is.covered picture is.decoded;
    }
    outcome_same units (outcome.Bitstream number) picture is = record {
      within = is.within;
      covered = is.covered;
      before = accepted_same info entries alike units number is.covered is.before;
      refused = refused_same is.covered (payload_at units number) is.refused;
    }
    outcome_same units (outcome.Incomplete missing) picture is = record {
      covered = is.covered;
      accepted = accepted_same info entries alike units (length units) is.covered is.accepted;
      some = is.some;
      count = is.count;
    }
