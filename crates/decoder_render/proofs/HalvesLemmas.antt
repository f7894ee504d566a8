-- Slices that are constructed in parts of a picture: what one part is made of says nothing of the others.
use Rattle.std.proofs.Common.{◌≡◌, ℕ, ◌+◌, ◌-◌, ◌<◌, ◌≤◌, Bool, true, false, List, [], ◌++◌, Option, Some, None, inl, inr, length, take, drop, get_or, refl, sym, ap, ◌∙◌, subst, arith}
use Rattle.std.proofs.lemmas.Bool.{cases_lt}
use Rattle.std.proofs.lemmas.List.{drop-drop, get_or-append-add, get_or_append_left, length-append, length-take-le, take_all}
use Rattle.std.proofs.Math.Seq.{drop-append_seam, take-append_seam}
use Rattle.std.specs.Option.{option_or}
use Rattle.std.specs.Prelude.{IfSome}
use Rattle.cb_types.specs.declared.mark.MbMark.{MbMark}
use Rattle.motion.specs.Border.{no_mark}
use Rattle.recon.specs.Laws.{AreWhole, IsWholeMark, IsWholeTile}
use Rattle.recon.specs.Rebuilt.{AreRebuilt, StopsWithin}
use Rattle.vd_plane.specs.Tiles.{tile_at}
use Rattle.vd_plane.specs.declared.tile.Tile.{Tile}
use Rattle.decoder_render.specs.Constructed.{IsConstructed}
use Rattle.decoder_render.specs.Halves.{AreBuilt, CanBuild, IsBuilt, IsFirstStop, IsSliceAt, Part, Stops, numbered, own, part_from}
use Rattle.decoder_render.specs.Parsed.{slice_at, start_of}
use Rattle.decoder_render.specs.declared.halves.Source.{Source}
use Rattle.decoder_render.specs.declared.parsing.ParsedSlice.{ParsedSlice}
use Rattle.decoder_render.proofs.CoverLemmas.{kept_front}
use Rattle.decoder_render.proofs.ParsedLemmas.{part_kept, starts_rise}
use Rattle.decoder_render.proofs.SliceRanges.{whole_more}
use Rattle.decoder_render.proofs.StepLemmas.{part_whole}

-- ---- what a slice has of a list

-- a part that was written is there
pub written_part : {A : Type 0} (xs part rest : List A) (first count : ℕ) → first ≤ length xs → length part ≡ count → take count (drop first (take first xs ++ (part ++ rest))) ≡ part
written_part xs part rest first count room size =
    let long = length-take-le first xs room in
    let behind : drop first (take first xs ++ (part ++ rest)) ≡ part ++ rest = ap (λ n. drop n (take first xs ++ (part ++ rest))) (sym long) ∙ drop-append_seam (take first xs) (part ++ rest) in
    ap (take count) behind ∙ (ap (λ n. take n (part ++ rest)) (sym size) ∙ take-append_seam part rest)

-- what a slice has of a list that was written behind it
pub own_kept : {A : Type 0} (slices : List ParsedSlice) (start number end : ℕ) (xs ys : List A) → take end xs ≡ take end ys
    → start_of slices number - start + (slice_at slices number).count ≤ end → own slices start number xs ≡ own slices start number ys
own_kept slices start number end xs ys same within = part_kept xs ys end (start_of slices number - start) (slice_at slices number).count same within

-- what it has of a list that another follows
pub own_left : {A : Type 0} (slices : List ParsedSlice) (start number : ℕ) (xs ys : List A)
    → start_of slices number - start + (slice_at slices number).count ≤ length xs → own slices start number (xs ++ ys) ≡ own slices start number xs
own_left slices start number xs ys within =
    own_kept slices start number (length xs) (xs ++ ys) xs (take-append_seam xs ys ∙ sym (take_all (length xs) xs (omega arith))) within

-- what it has of a list that follows another
pub own_right : {A : Type 0} (slices : List ParsedSlice) (start next number : ℕ) (xs ys : List A)
    → start + length xs ≡ next → next ≤ start_of slices number → own slices start number (xs ++ ys) ≡ own slices next number ys
own_right slices start next number xs ys seam behind =
    let at : start_of slices number - start ≡ length xs + (start_of slices number - next) = omega (arith, seam, behind) in
    let moved : drop (start_of slices number - start) (xs ++ ys) ≡ drop (start_of slices number - next) ys =
    ap (λ n. drop n (xs ++ ys)) at ∙ (sym (drop-drop (start_of slices number - next) (length xs) (xs ++ ys)) ∙ ap (drop (start_of slices number - next)) (drop-append_seam xs ys)) in
    ap (take (slice_at slices number).count) moved

-- slices begin in their order
pub starts_in_order : (slices : List ParsedSlice) (n k : ℕ) → n ≤ k → start_of slices n ≤ start_of slices k
starts_in_order slices n k le = elim (cases_lt n k) [
  | inl less ↦ let rise = starts_rise slices n k less in omega (arith, rise)
  | inr back ↦ let same : n ≡ k = omega (arith, le, back) in subst (λ j. start_of slices n ≤ start_of slices j) same (omega arith)
]

-- ---- memory

-- of two parts
pub whole_front : (marks more_marks : List MbMark) (tiles more_tiles : List Tile) → length tiles ≡ length marks
    → AreWhole (marks ++ more_marks) (tiles ++ more_tiles) (length (marks ++ more_marks)) → AreWhole marks tiles (length marks)
whole_front marks more_marks tiles more_tiles same whole =
    let all = length-append marks more_marks in
    record {
      of_marks = λ k lt. subst IsWholeMark (get_or_append_left marks more_marks no_mark k lt) (whole.of_marks k (omega (arith, lt, all)));
      of_tiles = λ k lt. subst IsWholeTile (get_or_append_left tiles more_tiles _ k (omega (arith, lt, same))) (whole.of_tiles k (omega (arith, lt, all)));
    }

pub whole_back : (marks more_marks : List MbMark) (tiles more_tiles : List Tile) → length tiles ≡ length marks
    → AreWhole (marks ++ more_marks) (tiles ++ more_tiles) (length (marks ++ more_marks)) → AreWhole more_marks more_tiles (length more_marks)
whole_back marks more_marks tiles more_tiles same whole =
    let all = length-append marks more_marks in
    record {
      of_marks = λ k lt. subst IsWholeMark (get_or-append-add marks more_marks k no_mark) (whole.of_marks (length marks + k) (omega (arith, lt, all)));
      of_tiles = λ k lt. subst IsWholeTile (ap (λ n. tile_at (tiles ++ more_tiles) (n + k)) (sym same) ∙ get_or-append-add tiles more_tiles k (record { y = []; cb = []; cr = [] })) (whole.of_tiles (length marks + k) (omega (arith, lt, all)));
    }

each_of_both : {A : Type 0} (P : A → Type 0) (xs ys : List A) (k : ℕ) (d : A) → ((j : ℕ) → j < length xs → P (get_or xs j d)) → ((j : ℕ) → j < length ys → P (get_or ys j d))
    → k < length (xs ++ ys) → P (get_or (xs ++ ys) k d)
each_of_both P xs ys k d front back lt =
    let all = length-append xs ys in
    elim (cases_lt k (length xs)) [
      | inl less ↦ subst P (sym (get_or_append_left xs ys d k less)) (front k less)
      | inr le ↦
          let at : length xs + (k - length xs) ≡ k = omega (arith, le) in
          subst (λ n. P (get_or (xs ++ ys) n d)) at (subst P (sym (get_or-append-add xs ys (k - length xs) d)) (back (k - length xs) (omega (arith, le, lt, all))))
    ]

pub whole_both : (marks more_marks : List MbMark) (tiles more_tiles : List Tile) → length tiles ≡ length marks → length more_tiles ≡ length more_marks
    → AreWhole marks tiles (length marks) → AreWhole more_marks more_tiles (length more_marks) → AreWhole (marks ++ more_marks) (tiles ++ more_tiles) (length (marks ++ more_marks))
whole_both marks more_marks tiles more_tiles same more_same front back =
    let all = length-append marks more_marks in
    let all_tiles = length-append tiles more_tiles in
    record {
      of_marks = λ k lt. each_of_both IsWholeMark marks more_marks k no_mark front.of_marks back.of_marks lt;
      of_tiles = λ k lt. each_of_both IsWholeTile tiles more_tiles k _ (λ j below. front.of_tiles j (omega (arith, below, same))) (λ j below. back.of_tiles j (omega (arith, below, more_same))) (omega (arith, lt, all, all_tiles, same, more_same));
    }

-- ---- one slice

module _ (source : Source) where
  module _ (number start : ℕ) (marks new_marks : List MbMark) (tiles new_tiles : List Tile) where
    abbrev first : ℕ
    first = start_of source.slices.now number - start

    abbrev count : ℕ
    count = (slice_at source.slices.now number).count

    abbrev pub Step : Bool → Type 0
    Step is_whole = IsConstructed (numbered source number) (start_of source.slices.now number - start) (slice_at source.slices.now number).count marks new_marks tiles new_tiles is_whole

    module _ (from : ℕ) (le : from ≤ number) (from_is : start ≡ start_of source.slices.now from)
        (room : start_of source.slices.now number + (slice_at source.slices.now number).count ≤ start + length marks) (same : length tiles ≡ length marks) where
      behind : start ≤ start_of source.slices.now number
      behind = let rise = starts_in_order source.slices.now from number le in omega (arith, rise, from_is)

      inside : first + count ≤ length marks
      inside = omega (arith, behind, room)

      -- The slices before it are constructed as they were.
      pub step_keeps : (is_whole : Bool) → Step is_whole → AreBuilt source (part_from start marks tiles) from number → AreBuilt source (part_from start new_marks new_tiles) from number
      step_keeps is_whole step before n after below =
          let rise = starts_rise source.slices.now n number below in
          let order = starts_in_order source.slices.now from n after in
          let within : start_of source.slices.now n - start + (slice_at source.slices.now n).count ≤ first = omega (arith, rise, order, from_is) in
          let marks_kept : take first marks ≡ take first new_marks = sym (ap (take first) step.in_marks ∙ kept_front marks step.own_marks (drop (first + count) marks) first (omega (arith, inside))) in
          let tiles_kept : take first tiles ≡ take first new_tiles = sym (ap (take first) step.in_tiles ∙ kept_front tiles step.own_tiles (drop (first + count) tiles) first (omega (arith, inside, same))) in
          let was : AreRebuilt (numbered source n) (own source.slices.now start n marks) (own source.slices.now start n tiles) (slice_at source.slices.now n).count = before n after below in
          subst (λ (m : List MbMark). AreRebuilt (numbered source n) m (own source.slices.now start n new_tiles) (slice_at source.slices.now n).count) (own_kept source.slices.now start n first marks new_marks marks_kept within)
          (subst (λ (t : List Tile). AreRebuilt (numbered source n) (own source.slices.now start n marks) t (slice_at source.slices.now n).count) (own_kept source.slices.now start n first tiles new_tiles tiles_kept within) was)

      own_marks_are : (is_whole : Bool) → (step : Step is_whole) → step.own_marks ≡ own source.slices.now start number new_marks
      own_marks_are is_whole step = sym (ap (λ (m : List MbMark). take count (drop first m)) step.in_marks ∙ written_part marks step.own_marks (drop (first + count) marks) first count (omega (arith, inside)) step.of_marks)

      own_tiles_are : (is_whole : Bool) → (step : Step is_whole) → step.own_tiles ≡ own source.slices.now start number new_tiles
      own_tiles_are is_whole step = sym (ap (λ (t : List Tile). take count (drop first t)) step.in_tiles ∙ written_part tiles step.own_tiles (drop (first + count) tiles) first count (omega (arith, inside, same)) step.of_tiles)

      -- It is constructed itself, or stops.
      pub step_builds : Step true → IsBuilt source (part_from start new_marks new_tiles) number
      step_builds step =
          subst (λ (m : List MbMark). AreRebuilt (numbered source number) m (own source.slices.now start number new_tiles) count) (own_marks_are true step)
          (subst (λ (t : List Tile). AreRebuilt (numbered source number) step.own_marks t count) (own_tiles_are true step) step.rebuilt)

      pub step_stops : Step false → Stops source (part_from start new_marks new_tiles) number
      step_stops step =
          subst (λ (m : List MbMark). StopsWithin (numbered source number) m (own source.slices.now start number new_tiles) count) (own_marks_are false step)
          (subst (λ (t : List Tile). StopsWithin (numbered source number) step.own_marks t count) (own_tiles_are false step) step.rebuilt)

      -- The memory stays whole.
      pub step_memory : (is_whole : Bool) → Step is_whole → AreWhole marks tiles (length marks) → AreWhole new_marks new_tiles (length marks)
      step_memory is_whole step whole =
          let here = step.whole (part_whole marks tiles first count (length marks) inside whole) in
          let made = whole_more marks step.own_marks (drop (first + count) marks) tiles step.own_tiles (drop (first + count) tiles) first count (length marks)
          (omega (arith, inside)) (omega (arith, inside, same)) step.of_marks step.of_tiles refl refl here whole in
          subst (λ (m : List MbMark). AreWhole m new_tiles (length marks)) (sym step.in_marks)
          (subst (λ (t : List Tile). AreWhole (take first marks ++ (step.own_marks ++ drop (first + count) marks)) t (length marks)) (sym step.in_tiles) made)

  -- none at all are
  pub none_built : (part : Part) (count : ℕ) → count ≡ 0 → AreBuilt source part 0 count
  none_built part count none n after below = absurd (omega (arith, none, below))

  -- the first that stops is one of them
  pub first_below : (part : Part) (from to : ℕ) (answer : Option ℕ) → IsFirstStop source part from to answer → IfSome answer (λ number. number < to)
  first_below part from to None is = tt
  first_below part from to (Some number) is = is.below

  -- one more of them is constructed
  pub are_one_more : (part : Part) (from number : ℕ) → AreBuilt source part from number → IsBuilt source part number → AreBuilt source part from (number + 1)
  are_one_more part from number before here n after below = elim (cases_lt n number) [
    | inl less ↦ before n after less
    | inr le ↦ let at : number ≡ n = omega (arith, le, below) in subst (λ k. IsBuilt source part k) at here
  ]

  -- ---- two parts

  module _ (from middle to start next : ℕ) (marks more_marks : List MbMark) (tiles more_tiles : List Tile)
      (start_is : start ≡ start_of source.slices.now from) (next_is : next ≡ start_of source.slices.now middle)
      (seam : start + length marks ≡ next) (seam' : length tiles ≡ length marks) where
    front_built : (n : ℕ) → from ≤ n → n < middle → IsBuilt source (part_from start marks tiles) n → IsBuilt source (part_from start (marks ++ more_marks) (tiles ++ more_tiles)) n
    front_built n after below built =
        let rise = starts_rise source.slices.now n middle below in
        let order = starts_in_order source.slices.now from n after in
        let within : start_of source.slices.now n - start + (slice_at source.slices.now n).count ≤ length marks = omega (arith, rise, order, start_is, next_is, seam) in
        let count = (slice_at source.slices.now n).count in
        subst (λ (m : List MbMark). AreRebuilt (numbered source n) m (own source.slices.now start n (tiles ++ more_tiles)) count) (sym (own_left source.slices.now start n marks more_marks within))
        (subst (λ (t : List Tile). AreRebuilt (numbered source n) (own source.slices.now start n marks) t count) (sym (own_left source.slices.now start n tiles more_tiles (omega (arith, within, seam')))) built)

    back_built : (n : ℕ) → middle ≤ n → IsBuilt source (part_from next more_marks more_tiles) n → IsBuilt source (part_from start (marks ++ more_marks) (tiles ++ more_tiles)) n
    back_built n after built =
        let order = starts_in_order source.slices.now middle n after in
        let count = (slice_at source.slices.now n).count in
        subst (λ (m : List MbMark). AreRebuilt (numbered source n) m (own source.slices.now start n (tiles ++ more_tiles)) count) (sym (own_right source.slices.now start next n marks more_marks seam (omega (arith, order, next_is))))
        (subst (λ (t : List Tile). AreRebuilt (numbered source n) (own source.slices.now next n more_marks) t count)
        (sym (own_right source.slices.now start next n tiles more_tiles (omega (arith, seam, seam')) (omega (arith, order, next_is)))) built)

    front_stops : (n : ℕ) → from ≤ n → n < middle → Stops source (part_from start marks tiles) n → Stops source (part_from start (marks ++ more_marks) (tiles ++ more_tiles)) n
    front_stops n after below stops =
        let rise = starts_rise source.slices.now n middle below in
        let order = starts_in_order source.slices.now from n after in
        let within : start_of source.slices.now n - start + (slice_at source.slices.now n).count ≤ length marks = omega (arith, rise, order, start_is, next_is, seam) in
        let count = (slice_at source.slices.now n).count in
        subst (λ (m : List MbMark). StopsWithin (numbered source n) m (own source.slices.now start n (tiles ++ more_tiles)) count) (sym (own_left source.slices.now start n marks more_marks within))
        (subst (λ (t : List Tile). StopsWithin (numbered source n) (own source.slices.now start n marks) t count) (sym (own_left source.slices.now start n tiles more_tiles (omega (arith, within, seam')))) stops)

    back_stops : (n : ℕ) → middle ≤ n → Stops source (part_from next more_marks more_tiles) n → Stops source (part_from start (marks ++ more_marks) (tiles ++ more_tiles)) n
    back_stops n after stops =
        let order = starts_in_order source.slices.now middle n after in
        let count = (slice_at source.slices.now n).count in
        subst (λ (m : List MbMark). StopsWithin (numbered source n) m (own source.slices.now start n (tiles ++ more_tiles)) count) (sym (own_right source.slices.now start next n marks more_marks seam (omega (arith, order, next_is))))
        (subst (λ (t : List Tile). StopsWithin (numbered source n) (own source.slices.now next n more_marks) t count)
        (sym (own_right source.slices.now start next n tiles more_tiles (omega (arith, seam, seam')) (omega (arith, order, next_is)))) stops)

    all_before : AreBuilt source (part_from start marks tiles) from middle → (end : ℕ) → AreBuilt source (part_from next more_marks more_tiles) middle end → AreBuilt source (part_from start (marks ++ more_marks) (tiles ++ more_tiles)) from end
    all_before front end back n after below = elim (cases_lt n middle) [
      | inl less ↦ front_built n after less (front n after less)
      | inr le ↦ back_built n le (back n le below)
    ]

    -- The first stop of the front, or else of the back, is the first of both.
    pub first_of_both : from < middle → middle < to → (front back : Option ℕ) → IsFirstStop source (part_from start marks tiles) from middle front → IsFirstStop source (part_from next more_marks more_tiles) middle to back
        → IsFirstStop source (part_from start (marks ++ more_marks) (tiles ++ more_tiles)) from to (option_or front back)
    first_of_both some more (Some n) back front_is back_is = record {
      after = front_is.after;
      below = let below = front_is.below in omega (arith, below, more);
      before = λ k after below. let lower = front_is.below in front_built k after (omega (arith, below, lower)) (front_is.before k after below);
      stops = front_stops n front_is.after front_is.below front_is.stops;
    }
    first_of_both some more None (Some n) front_is back_is = record {
      after = let after = back_is.after in omega (arith, after, some);
      below = back_is.below;
      before = all_before front_is n back_is.before;
      stops = back_stops n back_is.after back_is.stops;
    }
    first_of_both some more None None front_is back_is = all_before front_is to back_is

  -- the first of the slices begins where the last ends, or before
  pub starts_next_in : (from to : ℕ) → from < to → ((number : ℕ) → number < to → IsSliceAt source number)
      → (slice_at source.slices.now from).header.first_mb ≤ (slice_at source.slices.now (to - 1)).header.first_mb + (slice_at source.slices.now (to - 1)).count
  starts_next_in from to some each =
      let order = starts_in_order source.slices.now from (to - 1) (omega (arith, some)) in
      let low = (each from some).first in
      let high = (each (to - 1) (omega (arith, some))).first in
      omega (arith, order, low, high)

  -- ---- what the halves of a part are given

  module _ (from middle to : ℕ) (all_marks marks more_marks : List MbMark) (all_tiles tiles more_tiles : List Tile) (some : from < middle) (more : middle < to)
      (of_marks : all_marks ≡ marks ++ more_marks) (of_tiles : all_tiles ≡ tiles ++ more_tiles)
      (count : start_of source.slices.now from + length marks ≡ start_of source.slices.now middle) (same : length tiles ≡ length marks)
      (can : CanBuild source from to (part_from (start_of source.slices.now from) all_marks all_tiles)) where
    all_whole : AreWhole (marks ++ more_marks) (tiles ++ more_tiles) (length (marks ++ more_marks))
    all_whole =
        let with_marks = subst (λ (m : List MbMark). AreWhole m all_tiles (length m)) of_marks can.whole in
        subst (λ (t : List Tile). AreWhole (marks ++ more_marks) t (length (marks ++ more_marks))) of_tiles with_marks

    pub can_front : CanBuild source from middle (part_from (start_of source.slices.now from) marks tiles)
    can_front = record {
      some = some;
      slices = let slices = can.slices in omega (arith, slices, more);
      few = let few = can.few in omega (arith, few, more);
      each = λ n below. can.each n (omega (arith, below, more));
      start = refl;
      room = omega (arith, count);
      tiles = same;
      whole = whole_front marks more_marks tiles more_tiles same all_whole;
    }

    pub can_back : CanBuild source middle to (part_from (start_of source.slices.now middle) more_marks more_tiles)
    can_back = record {
      some = more;
      slices = can.slices;
      few = can.few;
      each = can.each;
      start = refl;
      room =
          let room = can.room in
          let long = ap length of_marks ∙ length-append marks more_marks in
          omega (arith, count, room, long);
      tiles =
          let long = ap length of_marks ∙ length-append marks more_marks in
          let long_tiles = ap length of_tiles ∙ length-append tiles more_tiles in
          let tiles = can.tiles in
          omega (arith, tiles, same, long, long_tiles);
      whole = whole_back marks more_marks tiles more_tiles same all_whole;
    }
