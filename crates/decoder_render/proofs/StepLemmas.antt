-- One step of the construction of a picture's slices.
use Rattle.std.proofs.Common.{◌≡◌, ℕ, suc, ◌+◌, ◌<◌, ◌≤◌, Bool, true, false, List, ◌++◌, Option, length, take, drop, refl, sym, ap, ◌∙◌, subst, arith}
use Rattle.std.proofs.lemmas.List.{get_or-drop, get_or-take}
use Rattle.cb_types.specs.AcceptedInfo.{IsAcceptedBySome}
use Rattle.cb_types.specs.SizeMbs.{IsWithinLimits, macroblocks}
use Rattle.cb_types.specs.declared.macroblock.Macroblock.{Macroblock}
use Rattle.cb_types.specs.declared.mark.MbMark.{MbMark}
use Rattle.cb_types.specs.declared.picture_info.PictureInfo.{PictureInfo}
use Rattle.cb_types.specs.declared.size.SizeMbs.{SizeMbs}
use Rattle.deblock.specs.Marks.{IsMark}
use Rattle.motion.specs.Border.{mark_at, no_mark}
use Rattle.recon.specs.Conditions.{IsSlice}
use Rattle.recon.specs.Laws.{AreWhole, IsWholeMark, IsWholeTile}
use Rattle.recon.specs.Slice.{Slice, slice_of}
use Rattle.vd_plane.specs.declared.picture.Picture.{Picture}
use Rattle.vd_plane.specs.declared.tile.Tile.{Tile}
use Rattle.decoder_render.specs.Constructed.{IsConstructed}
use Rattle.decoder_render.specs.Coverage.{AreAccepted, Covered, IsRefused, given}
use Rattle.decoder_render.specs.Parsed.{IsParsedUnit, covered_by, first_header, macroblocks_of, slice_at, start_of}
use Rattle.decoder_render.specs.Submission.{payload_at}
use Rattle.decoder_render.specs.declared.parsing.ParsedSlice.{ParsedSlice}
use Rattle.decoder_render.proofs.CoverLemmas.{covered_same, is_refused, kept_front, one_more}
use Rattle.decoder_render.proofs.SliceRanges.{IsInside, marks_more, parsed_inside, parsed_slice, whole_more}

pub part_whole : (marks : List MbMark) (tiles : List Tile) (first count end : ℕ) → first + count ≤ end → AreWhole marks tiles end → AreWhole (take count (drop first marks)) (take count (drop first tiles)) count
part_whole marks tiles first count end room whole = record {
  of_marks = λ k lt. subst IsWholeMark (sym (get_or-take count (drop first marks) k no_mark lt ∙ get_or-drop first marks k no_mark)) (whole.of_marks (first + k) (omega (arith, lt, room)));
  of_tiles = λ k lt. subst IsWholeTile (sym (get_or-take count (drop first tiles) k _ lt ∙ get_or-drop first tiles k _)) (whole.of_tiles (first + k) (omega (arith, lt, room)));
}

pub start_next : (slices : List ParsedSlice) (n : ℕ) → start_of slices (n + 1) ≡ start_of slices n + (slice_at slices n).count
unfolding start_of
start_next slices n = let next : n + 1 ≡ suc n = omega arith in ap (start_of slices) next

module _ (info : PictureInfo) (size : SizeMbs) (pictures : List (Option Picture)) (units : List (Option (List ℕ))) (slices : List ParsedSlice) (mbs : List Macroblock) (n : ℕ) where
  -- the slice of number n with its macroblocks from this one on
  abbrev pub step_at : ℕ → Slice
  step_at first = slice_of info (slice_at slices n).header (slice_at slices n).list.entries pictures size (take (slice_at slices n).count (drop first mbs))

  pub step_inside : IsParsedUnit info size units slices mbs n → IsInside size (start_of slices n) (slice_at slices n)
  step_inside unit = parsed_inside info size (first_header slices n) (start_of slices n) unit.payload (slice_at slices n) (macroblocks_of slices mbs n) unit.parsed

  pub step_slice : IsAcceptedBySome info → IsWithinLimits size → length info.references ≡ 16 → IsParsedUnit info size units slices mbs n
      → IsSlice (step_at (slice_at slices n).header.first_mb) (slice_at slices n).count
  step_slice accepted limits sixteen unit =
      let inside = step_inside unit in
      subst (λ (first : ℕ). IsSlice (step_at first) (slice_at slices n).count) (sym inside.first)
      (parsed_slice info size pictures (first_header slices n) (start_of slices n) unit.payload (slice_at slices n) (macroblocks_of slices mbs n) accepted limits sixteen unit.parsed)

  module _ (marks new_marks : List MbMark) (tiles new_tiles : List Tile) where
    abbrev pub Step : ℕ → Bool → Type 0
    Step first is_whole = IsConstructed (step_at first) first (slice_at slices n).count marks new_marks tiles new_tiles is_whole

    at_start : (is_whole : Bool) → IsParsedUnit info size units slices mbs n → Step (slice_at slices n).header.first_mb is_whole → Step (start_of slices n) is_whole
    at_start is_whole unit step = let inside = step_inside unit in subst (λ (first : ℕ). Step first is_whole) inside.first step

    module _ (unit : IsParsedUnit info size units slices mbs n) (of_marks : length marks ≡ macroblocks size) (of_tiles : length tiles ≡ macroblocks size) (whole : AreWhole marks tiles (macroblocks size)) where
      own_whole : (is_whole : Bool) → (step : Step (start_of slices n) is_whole) → AreWhole step.own_marks step.own_tiles (slice_at slices n).count
      own_whole is_whole step =
          let inside = step_inside unit in
          step.whole (part_whole marks tiles (start_of slices n) (slice_at slices n).count (macroblocks size) inside.end whole)

      pub step_whole : (is_whole : Bool) → Step (slice_at slices n).header.first_mb is_whole → AreWhole new_marks new_tiles (macroblocks size)
      step_whole is_whole here =
          let inside = step_inside unit in
          let start = start_of slices n in
          let count = (slice_at slices n).count in
          let step = at_start is_whole unit here in
          let made = whole_more marks step.own_marks (drop (start + count) marks) tiles step.own_tiles (drop (start + count) tiles) start count (macroblocks size)
          (omega (arith, inside.end, of_marks)) (omega (arith, inside.end, of_tiles)) step.of_marks step.of_tiles refl refl (own_whole is_whole step) whole in
          subst (λ (m : List MbMark). AreWhole m new_tiles (macroblocks size)) (sym step.in_marks)
          (subst (λ (t : List Tile). AreWhole (take start marks ++ (step.own_marks ++ drop (start + count) marks)) t (macroblocks size)) (sym step.in_tiles) made)

      -- what is covered before it stays
      pub step_before : (is_whole : Bool) → Step (slice_at slices n).header.first_mb is_whole → covered_by slices new_marks new_tiles n ≡ covered_by slices marks tiles n
      step_before is_whole here =
          let inside = step_inside unit in
          let start = start_of slices n in
          let count = (slice_at slices n).count in
          let step = at_start is_whole unit here in
          covered_same slices marks new_marks tiles new_tiles n
          (ap (take start) step.in_marks ∙ kept_front marks step.own_marks (drop (start + count) marks) start (omega (arith, inside.end, of_marks)))
          (ap (take start) step.in_tiles ∙ kept_front tiles step.own_tiles (drop (start + count) tiles) start (omega (arith, inside.end, of_tiles)))

      pub step_accepted : Step (slice_at slices n).header.first_mb true → AreAccepted (given info size pictures) units n (covered_by slices marks tiles n)
          → AreAccepted (given info size pictures) units (n + 1) (covered_by slices new_marks new_tiles (n + 1))
      step_accepted here before =
          let inside = step_inside unit in
          let start = start_of slices n in
          let count = (slice_at slices n).count in
          let step = at_start true unit here in
          let made = one_more info size pictures units slices n unit.payload (macroblocks_of slices mbs n) marks step.own_marks (drop (start + count) marks) tiles step.own_tiles (drop (start + count) tiles)
          unit.unit unit.parsed (omega (arith, inside.end, of_marks)) (omega (arith, inside.end, of_tiles)) step.of_marks step.of_tiles (own_whole true step) step.rebuilt before in
          let with_marks = subst (λ (m : List MbMark). AreAccepted (given info size pictures) units (suc n) (covered_by slices m (take start tiles ++ (step.own_tiles ++ drop (start + count) tiles)) (suc n))) (sym step.in_marks) made in
          let with_tiles = subst (λ (t : List Tile). AreAccepted (given info size pictures) units (suc n) (covered_by slices new_marks t (suc n))) (sym step.in_tiles) with_marks in
          let next : suc n ≡ n + 1 = omega arith in
          subst (λ (k : ℕ). AreAccepted (given info size pictures) units k (covered_by slices new_marks new_tiles k)) next with_tiles

      pub step_marks : IsAcceptedBySome info → IsWithinLimits size → length info.references ≡ 16 → Step (slice_at slices n).header.first_mb true
          → ((k : ℕ) → k < start_of slices n → IsMark (mark_at marks k)) → (k : ℕ) → k < start_of slices (n + 1) → IsMark (mark_at new_marks k)
      step_marks accepted limits sixteen here before k below =
          let inside = step_inside unit in
          let start = start_of slices n in
          let count = (slice_at slices n).count in
          let step = at_start true unit here in
          let next = start_next slices n in
          subst (λ (m : List MbMark). IsMark (mark_at m k)) (sym step.in_marks)
          (marks_more info size pictures (first_header slices n) start unit.payload (slice_at slices n) (macroblocks_of slices mbs n) marks step.own_marks (drop (start + count) marks) step.own_tiles
          accepted limits sixteen unit.parsed (omega (arith, inside.end, of_marks)) step.of_marks (own_whole true step) step.rebuilt before k (omega (arith, below, next)))

      pub step_refused : (covered : Covered) → IsAcceptedBySome info → IsWithinLimits size → Step (slice_at slices n).header.first_mb false → IsRefused (given info size pictures) covered (payload_at units n)
      step_refused covered accepted limits here =
          let step = at_start false unit here in
          is_refused info size pictures (first_header slices n) (start_of slices n) (payload_at units n) unit.payload (slice_at slices n) (macroblocks_of slices mbs n) covered step.own_marks step.own_tiles
          accepted limits unit.unit unit.parsed (own_whole false step) step.rebuilt
