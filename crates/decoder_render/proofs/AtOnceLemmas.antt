-- Slices that are constructed, each in its own part of the picture, are accepted one behind the other, up to the first that stops.
use Rattle.std.proofs.Common.{◌≡◌, ℕ, zero, suc, ◌+◌, ◌-◌, ◌<◌, ◌≤◌, List, ◌++◌, Option, Some, None, length, take, drop, refl, sym, ap, ◌∙◌, subst, arith}
use Rattle.std.specs.Prelude.{IfNone, MatchOption}
use Rattle.std.proofs.lemmas.List.{drop-drop, length-drop, length-take-le, take-append-drop}
use Rattle.cb_types.specs.AcceptedInfo.{IsAcceptedBySome}
use Rattle.cb_types.specs.SizeMbs.{IsWithinLimits, macroblocks}
use Rattle.cb_types.specs.declared.mark.MbMark.{MbMark}
use Rattle.deblock.specs.Marks.{IsMark}
use Rattle.motion.specs.Border.{mark_at}
use Rattle.recon.specs.Laws.{AreWhole}
use Rattle.recon.specs.Rebuilt.{AreRebuilt, StopsWithin}
use Rattle.recon.specs.References.{pictures_of}
use Rattle.vd_plane.specs.declared.tile.Tile.{Tile}
use Rattle.decoder_render.specs.Coverage.{AreAccepted, Given, IsRefused, given}
use Rattle.decoder_render.specs.Halves.{AreBuilt, IsBuilt, IsFirstStop, IsSliceAt, Stops, numbered, own, part_from}
use Rattle.decoder_render.specs.Parsed.{AreParsed, IsParsedUnit, covered_by, first_header, macroblocks_of, slice_at, start_of}
use Rattle.decoder_render.specs.Submission.{payload_at}
use Rattle.decoder_render.specs.declared.halves.Source.{Source}
use Rattle.decoder_render.specs.declared.parsing.ParsedSlice.{ParsedSlice}
use Rattle.decoder_render.proofs.CoverLemmas.{is_refused, one_more}
use Rattle.decoder_render.proofs.ParsedLemmas.{starts_at_none}
use Rattle.decoder_render.proofs.SliceRanges.{marks_more, parsed_slice}
use Rattle.decoder_render.proofs.StepLemmas.{part_whole, step_inside}

-- a list is its front, a part behind it and the rest
pub three_parts : {A : Type 0} (xs : List A) (first count : ℕ) → take first xs ++ (take count (drop first xs) ++ drop (first + count) xs) ≡ xs
three_parts xs first count =
    let rest : take count (drop first xs) ++ drop (first + count) xs ≡ drop first xs = ap (λ s. take count (drop first xs) ++ s) (sym (drop-drop count first xs)) ∙ take-append-drop count (drop first xs) in
    ap (λ s. take first xs ++ s) rest ∙ take-append-drop first xs

-- what a slice has of a whole list
own_whole : {A : Type 0} (slices : List ParsedSlice) (number : ℕ) (xs : List A) → own slices (start_of slices 0) number xs ≡ take (slice_at slices number).count (drop (start_of slices number) xs)
own_whole slices number xs =
    let none = starts_at_none slices in
    let at : start_of slices number - start_of slices 0 ≡ start_of slices number = omega (arith, none) in
    ap (λ n. take (slice_at slices number).count (drop n xs)) at

module _ (source : Source) (units : List (Option (List ℕ))) (count : ℕ) (accepted : IsAcceptedBySome source.info.now) (limits : IsWithinLimits source.size)
    (sixteen : length source.info.now.references ≡ 16) (of_macroblocks : length source.macroblocks.now ≡ macroblocks source.size)
    (parsed : AreParsed source.info.now source.size units source.slices.now source.macroblocks.now count) where
  -- each slice can be constructed
  pub each_slice : (number : ℕ) → number < count → IsSliceAt source number
  each_slice number below =
      let unit : IsParsedUnit source.info.now source.size units source.slices.now source.macroblocks.now number = parsed number below in
      let inside = step_inside source.info.now source.size (pictures_of source.refs.now) units source.slices.now source.macroblocks.now number unit in
      record {
        first = inside.first;
        end = omega (arith, inside.end, of_macroblocks);
        slice = parsed_slice source.info.now source.size (pictures_of source.refs.now) (first_header source.slices.now number) (start_of source.slices.now number) unit.payload (slice_at source.slices.now number)
            (macroblocks_of source.slices.now source.macroblocks.now number) accepted limits sixteen unit.parsed;
      }

  -- and all lie within the picture
  pub all_inside : (end : ℕ) → end ≤ count → start_of source.slices.now end ≤ macroblocks source.size
  unfolding start_of
  all_inside zero le = omega arith
  all_inside (suc end) le =
      let inside = step_inside source.info.now source.size (pictures_of source.refs.now) units source.slices.now source.macroblocks.now end (parsed end (omega (arith, le))) in
      inside.end

  module _ (marks : List MbMark) (tiles : List Tile) (of_marks : length marks ≡ macroblocks source.size) (of_tiles : length tiles ≡ macroblocks source.size)
      (whole : AreWhole marks tiles (macroblocks source.size)) where
    abbrev g : Given
    g = given source.info.now source.size (pictures_of source.refs.now)

    abbrev marks_of : ℕ → List MbMark
    marks_of number = take (slice_at source.slices.now number).count (drop (start_of source.slices.now number) marks)

    abbrev tiles_of : ℕ → List Tile
    tiles_of number = take (slice_at source.slices.now number).count (drop (start_of source.slices.now number) tiles)

    rebuilt_at : (number : ℕ) → IsBuilt source (part_from (start_of source.slices.now 0) marks tiles) number → AreRebuilt (numbered source number) (marks_of number) (tiles_of number) (slice_at source.slices.now number).count
    rebuilt_at number built =
        subst (λ (m : List MbMark). AreRebuilt (numbered source number) m (tiles_of number) (slice_at source.slices.now number).count) (own_whole source.slices.now number marks)
        (subst (λ (t : List Tile). AreRebuilt (numbered source number) (own source.slices.now (start_of source.slices.now 0) number marks) t (slice_at source.slices.now number).count) (own_whole source.slices.now number tiles) built)

    stops_at : (number : ℕ) → Stops source (part_from (start_of source.slices.now 0) marks tiles) number → StopsWithin (numbered source number) (marks_of number) (tiles_of number) (slice_at source.slices.now number).count
    stops_at number stops =
        subst (λ (m : List MbMark). StopsWithin (numbered source number) m (tiles_of number) (slice_at source.slices.now number).count) (own_whole source.slices.now number marks)
        (subst (λ (t : List Tile). StopsWithin (numbered source number) (own source.slices.now (start_of source.slices.now 0) number marks) t (slice_at source.slices.now number).count) (own_whole source.slices.now number tiles) stops)

    -- The slices up to one that are constructed are accepted.
    pub built_accepted : (end : ℕ) → end ≤ count → AreBuilt source (part_from (start_of source.slices.now 0) marks tiles) 0 end → AreAccepted g units end (covered_by source.slices.now marks tiles end)
    unfolding AreAccepted start_of
    built_accepted zero le built = refl
    built_accepted (suc end) le built =
        let before = built_accepted end (omega (arith, le)) (λ n after below. built n after (omega (arith, below))) in
        let unit : IsParsedUnit source.info.now source.size units source.slices.now source.macroblocks.now end = parsed end (omega (arith, le)) in
        let inside = step_inside source.info.now source.size (pictures_of source.refs.now) units source.slices.now source.macroblocks.now end unit in
        let start : ℕ = start_of source.slices.now end in
        let size : ℕ = (slice_at source.slices.now end).count in
        let long : length (marks_of end) ≡ size = length-take-le size (drop start marks) (omega (arith, inside.end, of_marks, length-drop start marks)) in
        let long' : length (tiles_of end) ≡ size = length-take-le size (drop start tiles) (omega (arith, inside.end, of_tiles, length-drop start tiles)) in
        let made = one_more source.info.now source.size (pictures_of source.refs.now) units source.slices.now end unit.payload (macroblocks_of source.slices.now source.macroblocks.now end)
        marks (marks_of end) (drop (start + size) marks) tiles (tiles_of end) (drop (start + size) tiles)
        unit.unit unit.parsed (omega (arith, inside.end, of_marks)) (omega (arith, inside.end, of_tiles)) long long'
        (part_whole marks tiles start size (macroblocks source.size) inside.end whole) (rebuilt_at end (built end (omega arith) (omega arith))) before in
        let with_marks = subst (λ (m : List MbMark). AreAccepted g units (suc end) (covered_by source.slices.now m (take start tiles ++ (tiles_of end ++ drop (start + size) tiles)) (suc end))) (three_parts marks start size) made in
        subst (λ (t : List Tile). AreAccepted g units (suc end) (covered_by source.slices.now marks t (suc end))) (three_parts tiles start size) with_marks

    -- Their marks are those that the filter asks for.
    pub built_marks : (end : ℕ) → end ≤ count → AreBuilt source (part_from (start_of source.slices.now 0) marks tiles) 0 end → (k : ℕ) → k < start_of source.slices.now end → IsMark (mark_at marks k)
    unfolding start_of
    built_marks zero le built k below = absurd (omega (arith, below))
    built_marks (suc end) le built k below =
        let before = built_marks end (omega (arith, le)) (λ n after lower. built n after (omega (arith, lower))) in
        let unit : IsParsedUnit source.info.now source.size units source.slices.now source.macroblocks.now end = parsed end (omega (arith, le)) in
        let inside = step_inside source.info.now source.size (pictures_of source.refs.now) units source.slices.now source.macroblocks.now end unit in
        let start : ℕ = start_of source.slices.now end in
        let size : ℕ = (slice_at source.slices.now end).count in
        let long : length (marks_of end) ≡ size = length-take-le size (drop start marks) (omega (arith, inside.end, of_marks, length-drop start marks)) in
        subst (λ (m : List MbMark). IsMark (mark_at m k)) (three_parts marks start size)
        (marks_more source.info.now source.size (pictures_of source.refs.now) (first_header source.slices.now end) start unit.payload (slice_at source.slices.now end)
        (macroblocks_of source.slices.now source.macroblocks.now end) marks (marks_of end) (drop (start + size) marks) (tiles_of end)
        accepted limits sixteen unit.parsed (omega (arith, inside.end, of_marks)) long
        (part_whole marks tiles start size (macroblocks source.size) inside.end whole) (rebuilt_at end (built end (omega arith) (omega arith))) before k below)

    -- One that stops is refused.
    pub stop_refused : (number : ℕ) → number < count → Stops source (part_from (start_of source.slices.now 0) marks tiles) number
        → IsRefused g (covered_by source.slices.now marks tiles number) (payload_at units number)
    stop_refused number below stops =
        let unit : IsParsedUnit source.info.now source.size units source.slices.now source.macroblocks.now number = parsed number below in
        let inside = step_inside source.info.now source.size (pictures_of source.refs.now) units source.slices.now source.macroblocks.now number unit in
        let start : ℕ = start_of source.slices.now number in
        let size : ℕ = (slice_at source.slices.now number).count in
        is_refused source.info.now source.size (pictures_of source.refs.now) (first_header source.slices.now number) start (payload_at units number) unit.payload (slice_at source.slices.now number)
        (macroblocks_of source.slices.now source.macroblocks.now number) (covered_by source.slices.now marks tiles number) (marks_of number) (tiles_of number)
        accepted limits unit.unit unit.parsed (part_whole marks tiles start size (macroblocks source.size) inside.end whole) (stops_at number stops)

    abbrev IsAnswer : Option ℕ → Type 0
    IsAnswer answer = IsFirstStop source (part_from (start_of source.slices.now 0) marks tiles) 0 count answer

    -- The answer is the first slice that isn't accepted.
    pub answer_accepted : (answer : Option ℕ) → IsAnswer answer → MatchOption answer (AreAccepted g units count (covered_by source.slices.now marks tiles count))
        (λ number. AreAccepted g units number (covered_by source.slices.now marks tiles number) × IsRefused g (covered_by source.slices.now marks tiles number) (payload_at units number))
    answer_accepted None is = built_accepted count (omega arith) is
    answer_accepted (Some number) is = let below = is.below in (built_accepted number (omega (arith, below)) is.before, stop_refused number below is.stops)

    pub answer_marks : (answer : Option ℕ) → IsAnswer answer → IfNone answer ((k : ℕ) → k < start_of source.slices.now count → IsMark (mark_at marks k))
    answer_marks None is = built_marks count (omega arith) is
    answer_marks (Some number) is = tt
