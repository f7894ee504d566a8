-- Frames that are marked stay such by the operations, and with the picture itself.
use Rattle.std.proofs.Common.{◌≡◌, ◌≢◌, ℕ, ◌<◌, ◌≤◌, Bool, true, false, not, ◌&&◌, ◌||◌, if◌then◌else◌, eqb, ltb, leb, List, [], ◌∷◌, take, get_or, set, Option, Some, None, refl, sym, subst, arith}
use Rattle.std.specs.Prelude.{IfSome, remove}
use Rattle.std.specs.List.{list_all, list_any, position}
use Rattle.std.specs.Option.{option_and_then, option_map}
use Rattle.std.proofs.lemmas.Bool.{and_from, eqb-false, le-leb, leb-true, lt-ltb, ltb-true, ne_eqb, or_from, or_parts, or_right}
use Rattle.cb_types.specs.AcceptedInfo.{are_all_apart, is_reference_accepted}
use Rattle.cb_types.specs.References.{is_absent, is_unused}
use Rattle.cb_types.specs.Slices.{is_idr}
use Rattle.cb_types.specs.declared.header.Header.{Header}
use Rattle.cb_types.specs.declared.header.Marking.{Marking}
use Rattle.cb_types.specs.declared.header.Marking.TheVariants.{Absent, Idr, Operations, Sliding}
use Rattle.cb_types.specs.declared.header.Mmco.{Mmco}
use Rattle.cb_types.specs.declared.header.Mmco.TheVariants.{CurrentLong, MakeLong, MaxLong, Reset, UnmarkLong, UnmarkShort}
use Rattle.cb_types.specs.declared.picture_info.Reference.{Reference}
use Rattle.cb_types.specs.declared.picture_info.TheConstants.{ABSENT_SURFACE, UNUSED_SURFACE}
use Rattle.marking.specs.Frames.{has_number, is_long_at, is_short_at, marked, slid}
use Rattle.marking.specs.History.{is_marking_of_idr}
use Rattle.marking.specs.Operations.{are_in_range, has_index, index_below, index_without, made_long, marks_after, marks_of, marks_of_idr, named_pic_num, no_frame, operated, operated_by_all, own_counts, own_frame, with_indices_below, with_own, without_index}
use Rattle.marking.specs.declared.marks.Marks.{Marks}
use Rattle.marking.specs.declared.marks.Own.{Own}
use Rattle.marking.specs.declared.numbers.Numbers.{Numbers}
use Rattle.marking.proofs.PartLemmas.{IsPart, all_set, any_set, apart_set, as_long, has_other, length_set, none_left, part_any, part_filter, part_remove}
use Rattle.marking.proofs.MarkedLemmas.{AreKnown, AreOf, known_part, marked_inv, marked_more, no_frames, of_push, of_set, slid_part}
use Rattle.marking.proofs.SomeLemmas.{and_then_some, map_some, none_some, same_some}

-- the index that the picture itself has, if any, is allowed, and no other frame has it
pub record IsOwnIndex (frames : List Reference) (current : Option ℕ) : Type 0 where
  pub free : IfSome current (λ index. list_any (is_long_at index) frames ≡ false)
  pub below : IfSome current (λ index. index < 16)

-- While the operations are done: the frames are marked ones, none has the picture's own number.
pub record AreMarks (k : ℕ) (Q : ℕ → Type 0) (number : ℕ) (m : Marks) : Type 0 where
  pub known : AreKnown k Q m.frames
  pub free : list_any (has_number number) m.frames ≡ false
  pub own : IsOwnIndex m.frames m.current
  pub most : m.indices ≤ 16

not_false : (b : Bool) → b ≡ false → not b ≡ true
not_false true e = sym e
not_false false e = refl

and_first : (a b : Bool) → (a && b) ≡ true → a ≡ true
and_first true b e = refl
and_first false b e = e

not_long : false ≡ true → ⊥
not_long e = cc

-- an IDR picture has no other marking
not_idr : (b : Bool) → (b ≡ true → false ≡ true) → b ≡ false
not_idr true h = sym (h refl)
not_idr false h = refl

one_apart : (x : Reference) → are_all_apart (x ∷ []) ≡ true
unfolding are_all_apart
one_apart x = refl

-- a number of a picture's own is no other surface
own_used : (own : Own) (is_reset : Bool) (current : Option ℕ) → own.number ≤ 16 → is_unused (own_frame own is_reset current) ≡ false
own_used own is_reset current few = ne_eqb own.number UNUSED_SURFACE (λ e. absurd (omega arith))

own_here : (own : Own) (is_reset : Bool) (current : Option ℕ) → own.number ≤ 16 → is_absent (own_frame own is_reset current) ≡ false
own_here own is_reset current few = ne_eqb own.number ABSENT_SURFACE (λ e. absurd (omega arith))

-- ---- the picture's own index

own_part : (xs ys : List Reference) (current : Option ℕ) → IsPart xs ys → IsOwnIndex ys current → IsOwnIndex xs current
own_part xs ys None part h = record { free = tt; below = tt }
own_part xs ys (Some index) part h = record { free = part_any (is_long_at index) xs ys part h.free; below = h.below }

own_below : (indices : ℕ) (frames : List Reference) (current : Option ℕ) → IsOwnIndex frames current → IsOwnIndex frames (index_below indices current)
own_below indices frames None h = record { free = tt; below = tt }
own_below indices frames (Some index) h =
    elim (ltb index indices) as (λ b. IsOwnIndex frames (if b then Some index else None)) [ true ↦ record { free = h.free; below = h.below } | false ↦ record { free = tt; below = tt } ]

-- another frame gets the index
own_without : (index k : ℕ) (freed frames : List Reference) (current : Option ℕ) → IsPart freed frames → IsOwnIndex frames current
    → IsOwnIndex (set freed k (as_long (get_or freed k no_frame) index)) (index_without index current)
own_without index k freed frames None part h = record { free = tt; below = tt }
own_without index k freed frames (Some own) part h =
    elim (eqb own index) as (λ b. eqb own index ≡ b → IsOwnIndex (set freed k (as_long (get_or freed k no_frame) index)) (if b then None else Some own)) [
      | true ↦ λ e. record { free = tt; below = tt }
      | false ↦ λ e. record {
        free = any_set (is_long_at own) freed k (as_long (get_or freed k no_frame) index) no_frame (part_any (is_long_at own) freed frames part h.free)
            (λ f. (let ne : index ≢ own = λ s. eqb-false own index e (sym s) in ne_eqb index own ne));
        below = h.below;
      }
    ] refl

-- ---- each operation

marks_part : (k : ℕ) (Q : ℕ → Type 0) (number : ℕ) (m : Marks) (xs : List Reference) → IsPart xs m.frames → AreMarks k Q number m → AreMarks k Q number (record m { frames = xs })
marks_part k Q number m xs part h = record {
  known = known_part k Q xs m.frames part h.known;
  free = part_any (has_number number) xs m.frames part h.free;
  own = own_part xs m.frames m.current part h.own;
  most = h.most;
}

marks_removed : (k : ℕ) (Q : ℕ → Type 0) (number : ℕ) (m after : Marks) (found : Option ℕ) → option_map (λ place. record m { frames = remove m.frames place }) found ≡ Some after
    → AreMarks k Q number m → AreMarks k Q number after
marks_removed k Q number m after found e h =
    let at = map_some (λ (place : ℕ). record m { frames = remove m.frames place }) found after e in
    subst (AreMarks k Q number) at.2 (marks_part k Q number m (remove m.frames at.0) (part_remove m.frames at.0) h)

long_accepted : (k index : ℕ) (frame : Reference) → index < 16 → is_absent frame ≡ false → is_reference_accepted k frame ≡ true → is_reference_accepted k (as_long frame index) ≡ true
long_accepted k index frame below here e =
    let w = frame.top_is_reference && frame.bottom_is_reference in
    let r = if frame.is_long_term then leb frame.frame_idx 15 && not (is_absent frame) else ltb frame.frame_idx k in
    let few : index ≤ 15 = omega arith in
    elim (is_unused frame) as (λ b. (b || (w && r)) ≡ true → (b || (w && (leb index 15 && not (is_absent frame)))) ≡ true) [
      | true ↦ λ h. refl
      | false ↦ λ h. and_from w (leb index 15 && not (is_absent frame)) (and_first w r h) (and_from (leb index 15) (not (is_absent frame)) (le-leb index 15 few) (not_false (is_absent frame) here))
    ] e

marks_long : (k : ℕ) (Q : ℕ → Type 0) (number : ℕ) (m after : Marks) (index place : ℕ) → made_long m index (without_index index m.frames) place ≡ Some after → index < 16
    → AreMarks k Q number m → AreMarks k Q number after
unfolding made_long
marks_long k Q number m after index place e below h =
    let freed = without_index index m.frames in
    let frame = get_or freed place no_frame in
    let long = as_long frame index in
    let part = part_filter (λ x. not (is_long_at index x)) m.frames in
    let known = known_part k Q freed m.frames part h.known in
    let next : Marks = record m { frames = set freed place long; current = index_without index m.current } in
    elim (is_absent frame) as (λ b. is_absent frame ≡ b → (if b then None else Some next) ≡ Some after → AreMarks k Q number after) [
      | true ↦ λ b s. absurd (none_some after s)
      | false ↦ λ b s. subst (AreMarks k Q number) (same_some next after s) (record {
        known = record {
          marked = record {
            most = (let size = length_set freed place long in let most = known.marked.most in omega (arith, size, most));
            used = any_set is_unused freed place long no_frame known.marked.used (λ u. u);
            accepted = all_set (is_reference_accepted k) freed place long no_frame known.marked.accepted (λ a. long_accepted k index frame below b a);
            apart = apart_set index freed place no_frame (none_left (is_long_at index) m.frames) known.marked.apart;
          };
          surfaces = of_set Q freed place long no_frame known.surfaces (λ q. q);
        };
        free = any_set (has_number number) freed place long no_frame (part_any (has_number number) freed m.frames part h.free) (λ u. u);
        own = own_without index place freed m.frames m.current part h.own;
        most = h.most;
      })
    ] refl e

pub marks_operated : (k : ℕ) (Q : ℕ → Type 0) (number : ℕ) (n : Numbers) (m after : Marks) (operation : Mmco) → operated n m operation ≡ Some after → n.max_num_ref_frames ≤ 16
    → AreMarks k Q number m → AreMarks k Q number after
unfolding operated
marks_operated k Q number n m after (UnmarkShort minus1) e few h = marks_removed k Q number m after (position (is_short_at n (named_pic_num n minus1)) m.frames) e h
marks_operated k Q number n m after (UnmarkLong index) e few h =
    let found = position (is_long_at index) m.frames in
    let none : Marks = record m { current = None } in
    elim (has_index index m.current) as (λ b. (if b then Some none else option_map (λ place. record m { frames = remove m.frames place }) found) ≡ Some after → AreMarks k Q number after) [
      | true ↦ λ s. subst (AreMarks k Q number) (same_some none after s) (record { known = h.known; free = h.free; own = record { free = tt; below = tt }; most = h.most })
      | false ↦ λ s. marks_removed k Q number m after found s h
    ] e
marks_operated k Q number n m after (MakeLong minus1 index) e few h =
    let freed = without_index index m.frames in
    let found = position (is_short_at n (named_pic_num n minus1)) freed in
    elim (ltb index m.indices) as (λ b. ltb index m.indices ≡ b → (if b then option_and_then (made_long m index freed) found else None) ≡ Some after → AreMarks k Q number after) [
      | true ↦ λ b s. (let at = and_then_some (made_long m index freed) found after s in
          let allowed = ltb-true index m.indices b in
          let most = h.most in
          marks_long k Q number m after index at.0 at.2 (omega (arith, allowed, most)) h)
      | false ↦ λ b s. absurd (none_some after s)
    ] refl e
marks_operated k Q number n m after (MaxLong indices) e few h =
    let kept = with_indices_below indices m.frames in
    let next : Marks = record m { frames = kept; current = index_below indices m.current; indices = indices } in
    let part = part_filter (λ frame. not frame.is_long_term || ltb frame.frame_idx indices) m.frames in
    elim (leb indices n.max_num_ref_frames) as (λ b. leb indices n.max_num_ref_frames ≡ b → (if b then Some next else None) ≡ Some after → AreMarks k Q number after) [
      | true ↦ λ b s. (let allowed = leb-true indices n.max_num_ref_frames b in subst (AreMarks k Q number) (same_some next after s) (record {
        known = known_part k Q kept m.frames part h.known;
        free = part_any (has_number number) kept m.frames part h.free;
        own = own_below indices kept m.current (own_part kept m.frames m.current part h.own);
        most = omega (arith, allowed, few);
      }))
      | false ↦ λ b s. absurd (none_some after s)
    ] refl e
marks_operated k Q number n m after Reset e few h =
    let next : Marks = record { frames = []; current = None; indices = 0; is_reset = true } in
    subst (AreMarks k Q number) (same_some next after e) (record {
      known = record { marked = no_frames; surfaces = tt };
      free = refl;
      own = record { free = tt; below = tt };
      most = omega arith;
    })
marks_operated k Q number n m after (CurrentLong index) e few h =
    let freed = without_index index m.frames in
    let next : Marks = record m { frames = freed; current = Some index } in
    let part = part_filter (λ x. not (is_long_at index x)) m.frames in
    elim (ltb index m.indices) as (λ b. ltb index m.indices ≡ b → (if b then Some next else None) ≡ Some after → AreMarks k Q number after) [
      | true ↦ λ b s. (let allowed = ltb-true index m.indices b in let most = h.most in subst (AreMarks k Q number) (same_some next after s) (record {
        known = known_part k Q freed m.frames part h.known;
        free = part_any (has_number number) freed m.frames part h.free;
        own = record { free = none_left (is_long_at index) m.frames; below = omega (arith, allowed, most) };
        most = most;
      }))
      | false ↦ λ b s. absurd (none_some after s)
    ] refl e

pub marks_by_all : (k : ℕ) (Q : ℕ → Type 0) (number : ℕ) (n : Numbers) (operations : List Mmco) (m after : Marks) → operated_by_all n operations m ≡ Some after → n.max_num_ref_frames ≤ 16
    → AreMarks k Q number m → AreMarks k Q number after
unfolding operated_by_all
marks_by_all k Q number n [] m after e few h = subst (AreMarks k Q number) (same_some m after e) h
marks_by_all k Q number n (operation ∷ operations) m after e few h =
    let first = and_then_some (operated_by_all n operations) (operated n m operation) after e in
    marks_by_all k Q number n operations first.0 after first.2 few (marks_operated k Q number n m first.0 operation first.1 few h)

-- ---- the picture itself

-- none has this number
others_free : (number : ℕ) (frames : List Reference) → list_any (has_number number) frames ≡ false → list_all (has_other number) frames ≡ true
others_free number [] e = refl
others_free number (x ∷ xs) e =
    let no = or_parts (has_number number x) (list_any (has_number number) xs) e in
    and_from (has_other number x) (list_all (has_other number) xs) (or_right (is_absent x) (not (has_number number x)) (not_false (has_number number x) no.0)) (others_free number xs no.1)

own_accepted : (k : ℕ) (own : Own) (is_reset : Bool) (current : Option ℕ) → own.frame_num < k → own.number ≤ 16 → IfSome current (λ index. index < 16)
    → is_reference_accepted k (own_frame own is_reset current) ≡ true
own_accepted k own true None below few index = or_right (is_unused (own_frame own true None)) (ltb 0 k) (lt-ltb 0 k (omega arith))
own_accepted k own false None below few index = or_right (is_unused (own_frame own false None)) (ltb own.frame_num k) (lt-ltb own.frame_num k below)
own_accepted k own is_reset (Some i) below few index =
    let one = own_frame own is_reset (Some i) in
    or_right (is_unused one) (leb i 15 && not (is_absent one)) (and_from (leb i 15) (not (is_absent one)) (le-leb i 15 (omega (arith, index))) (not_false (is_absent one) (own_here own is_reset (Some i) few)))

own_long : (own : Own) (is_reset : Bool) (current : Option ℕ) (frames : List Reference) → IsOwnIndex frames current
    → (own_frame own is_reset current).is_long_term ≡ true → list_any (is_long_at (own_frame own is_reset current).frame_idx) frames ≡ false
own_long own is_reset None frames h long = absurd (not_long long)
own_long own is_reset (Some i) frames h long = h.free

pub known_own : (k : ℕ) (Q : ℕ → Type 0) (n : Numbers) (own : Own) (m after : Marks) → with_own n own m ≡ Some after → n.max_num_ref_frames ≤ 16 → own.frame_num < k → own.number ≤ 16 → Q own.number
    → AreMarks k Q own.number m → AreKnown k Q after.frames
unfolding with_own
known_own k Q n own m after e few below number q h =
    let one = own_frame own m.is_reset m.current in
    let o = option_map (λ frames. record m { frames = frames }) (marked n one m.frames) in
    elim (not (are_in_range (own_counts m.is_reset own.counts))) as (λ b. (if b then None else o) ≡ Some after → AreKnown k Q after.frames) [
      | true ↦ λ s. absurd (none_some after s)
      | false ↦ λ s. (let at = map_some (λ (frames : List Reference). record m { frames = frames }) (marked n one m.frames) after s in
          let inv = marked_inv n one m.frames at.0 at.1 in
          subst (λ (t : Marks). AreKnown k Q t.frames) at.2 (record {
            marked = marked_more n k one m.frames at.0 at.1 few h.known.marked (own_used own m.is_reset m.current number) (own_accepted k own m.is_reset m.current below number h.own.below)
                (others_free own.number m.frames h.free) (own_long own m.is_reset m.current m.frames h.own);
            surfaces = subst (AreOf Q) (sym inv.2) (of_push Q m.frames one h.known.surfaces (λ here. q));
          }))
    ] e

known_idr : (k : ℕ) (Q : ℕ → Type 0) (own : Own) (long_term : Bool) → own.frame_num < k → own.number ≤ 16 → Q own.number → AreKnown k Q (marks_of_idr own long_term).frames
known_idr k Q own long_term below number q =
    let current : Option ℕ = if long_term then Some 0 else None in
    let index : IfSome current (λ i. i < 16) = elim long_term as (λ b. IfSome (if b then Some 0 else None) (λ i. i < 16)) [ true ↦ omega arith | false ↦ tt ] in
    record {
      marked = record {
        most = omega arith;
        used = or_from (is_unused (own_frame own false current)) false (own_used own false current number) refl;
        accepted = and_from (is_reference_accepted k (own_frame own false current)) true (own_accepted k own false current below number index) refl;
        apart = one_apart (own_frame own false current);
      };
      surfaces = (λ here. q, tt);
    }

-- The frames behind a picture: the frames before it are known, but where it is IDR.
pub known_after : (k : ℕ) (Q : ℕ → Type 0) (n : Numbers) (own : Own) (header : Header) (frames : List Reference) (indices : ℕ) (marking : Marking) (after : Marks)
    → marks_after n own header frames indices marking ≡ Some after → n.max_num_ref_frames ≤ 16 → own.frame_num < k → own.number ≤ 16 → Q own.number → indices ≤ 16
    → (is_idr header ≡ false → AreKnown k Q frames) → (is_idr header ≡ true → is_marking_of_idr marking ≡ true) → list_any (has_number own.number) frames ≡ false → AreKnown k Q after.frames
unfolding marks_after
known_after k Q n own header frames indices Absent after e few below number q most h idr free =
    elim (is_idr header) as (λ b. (b ≡ false → AreKnown k Q frames) → (if b then None else Some (marks_of frames indices)) ≡ Some after → AreKnown k Q after.frames) [
      | true ↦ λ h s. absurd (none_some after s)
      | false ↦ λ h s. subst (λ (t : Marks). AreKnown k Q t.frames) (same_some (marks_of frames indices) after s) (h refl)
    ] h e
known_after k Q n own header frames indices (Idr no_output long_term) after e few below number q most h idr free =
    subst (λ (t : Marks). AreKnown k Q t.frames) (same_some (marks_of_idr own long_term) after e) (known_idr k Q own long_term below number q)
known_after k Q n own header frames indices Sliding after e few below number q most h idr free =
    let first = and_then_some (λ (left : List Reference). with_own n own (marks_of left indices)) (slid n frames) after e in
    let part = slid_part n frames first.0 first.1 in
    known_own k Q n own (marks_of first.0 indices) after first.2 few below number q (record {
      known = known_part k Q first.0 frames part (h (not_idr (is_idr header) idr));
      free = part_any (has_number own.number) first.0 frames part free;
      own = record { free = tt; below = tt };
      most = most;
    })
known_after k Q n own header frames indices (Operations count operations) after e few below number q most h idr free =
    let first = and_then_some (with_own n own) (operated_by_all n (take count operations) (marks_of frames indices)) after e in
    known_own k Q n own first.0 after first.2 few below number q (marks_by_all k Q own.number n (take count operations) (marks_of frames indices) first.0 first.1 few (record {
      known = h (not_idr (is_idr header) idr);
      free = free;
      own = record { free = tt; below = tt };
      most = most;
    }))
