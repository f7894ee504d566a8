-- Frames that are marked stay such by the sliding rule, by one more frame and by gaps.
use Rattle.std.proofs.Common.{◌≡◌, ℕ, zero, suc, ◌<◌, ◌≤◌, true, false, not, ◌&&◌, ◌||◌, if◌then◌else◌, eqb, ltb, leb, List, [], ◌∷◌, ◌++◌, length, set, get_or, Some, None, refl, sym, subst, arith, length-append}
use Rattle.std.specs.Prelude.{remove}
use Rattle.std.specs.List.{list_all, list_any, position}
use Rattle.std.specs.Option.{option_map}
use Rattle.std.proofs.lemmas.Bool.{and_from, leb-false, lt-ltb, or_parts}
use Rattle.cb_types.specs.AcceptedInfo.{are_all_apart, is_reference_accepted}
use Rattle.cb_types.specs.References.{is_absent, is_unused}
use Rattle.cb_types.specs.declared.picture_info.Reference.{Reference}
use Rattle.cb_types.specs.declared.picture_info.TheConstants.{ABSENT_SURFACE}
use Rattle.marking.specs.Frames.{absent_frame, after_frame_num, filled, has_same_frame_num, is_long_at, is_oldest, marked, marked_absent, most_frames, slid}
use Rattle.marking.specs.History.{AreMarked}
use Rattle.marking.specs.declared.numbers.Numbers.{Numbers}
use Rattle.marking.proofs.PartLemmas.{IsPart, all_push, any_push, apart_more, has_other, kept, gone, nothing, part_all, part_any, part_apart, part_length, part_remove, part_same}
use Rattle.marking.proofs.SomeLemmas.{and_then_some, map_some, none_some, same_some}

-- what is known of the surface of each frame that isn't absent
abbrev pub AreOf : (ℕ → Type 0) → List Reference → Type 0
AreOf Q [] = Unit
AreOf Q (x ∷ xs) = (is_absent x ≡ false → Q x.surface) × AreOf Q xs

pub part_of : (Q : ℕ → Type 0) (xs ys : List Reference) → IsPart xs ys → AreOf Q ys → AreOf Q xs
part_of Q _ _ nothing h = tt
part_of Q _ _ (kept x xs ys part) h = (h.0, part_of Q xs ys part h.1)
part_of Q _ _ (gone x xs ys part) h = part_of Q xs ys part h.1

pub of_push : (Q : ℕ → Type 0) (xs : List Reference) (one : Reference) → AreOf Q xs → (is_absent one ≡ false → Q one.surface) → AreOf Q (xs ++ one ∷ [])
of_push Q [] one h here = (here, tt)
of_push Q (x ∷ xs) one h here = (h.0, of_push Q xs one h.1 here)

pub of_set : (Q : ℕ → Type 0) (xs : List Reference) (k : ℕ) (y d : Reference) → AreOf Q xs → ((is_absent (get_or xs k d) ≡ false → Q (get_or xs k d).surface) → is_absent y ≡ false → Q y.surface) → AreOf Q (set xs k y)
of_set Q [] zero y d h one = tt
of_set Q [] (suc k) y d h one = tt
of_set Q (x ∷ xs) zero y d h one = (one h.0, h.1)
of_set Q (x ∷ xs) (suc k) y d h one = (h.0, of_set Q xs k y d h.1 one)

-- frames that are marked, each of which has such a surface
pub record AreKnown (frame_nums : ℕ) (Q : ℕ → Type 0) (frames : List Reference) : Type 0 where
  pub marked : AreMarked frame_nums frames
  pub surfaces : AreOf Q frames

pub marked_part : (k : ℕ) (xs ys : List Reference) → IsPart xs ys → AreMarked k ys → AreMarked k xs
marked_part k xs ys part h = record {
  most = (let less = part_length xs ys part in let most = h.most in omega (arith, less, most));
  used = part_any is_unused xs ys part h.used;
  accepted = part_all (is_reference_accepted k) xs ys part h.accepted;
  apart = part_apart xs ys part h.apart;
}

none_apart : are_all_apart [] ≡ true
unfolding are_all_apart
none_apart = refl

pub no_frames : {k : ℕ} → AreMarked k []
no_frames {k} = record { most = omega arith; used = refl; accepted = refl; apart = none_apart }

pub known_part : (k : ℕ) (Q : ℕ → Type 0) (xs ys : List Reference) → IsPart xs ys → AreKnown k Q ys → AreKnown k Q xs
known_part k Q xs ys part h = record { marked = marked_part k xs ys part h.marked; surfaces = part_of Q xs ys part h.surfaces }

-- ---- the sliding rule

pub slid_part : (n : Numbers) (frames left : List Reference) → slid n frames ≡ Some left → IsPart left frames
unfolding slid
slid_part n frames left e =
    let found = position (is_oldest n frames) frames in
    elim (ltb (length frames) (most_frames n)) as (λ b. (if b then Some frames else option_map (λ place. remove frames place) found) ≡ Some left → IsPart left frames) [
      | true ↦ λ h. subst (λ (xs : List Reference). IsPart xs frames) (same_some frames left h) (part_same frames)
      | false ↦ λ h. (let at = map_some (λ (place : ℕ). remove frames place) found left h in subst (λ (xs : List Reference). IsPart xs frames) at.2 (part_remove frames at.0))
    ] e

-- ---- one more frame

most_16 : (n : Numbers) → n.max_num_ref_frames ≤ 16 → most_frames n ≤ 16
most_16 n few = omega arith

-- what is known where a frame could be marked
pub marked_inv : (n : Numbers) (one : Reference) (frames after : List Reference) → marked n one frames ≡ Some after
    → (has_same_frame_num one frames ≡ false) × (length frames < most_frames n) × (after ≡ frames ++ one ∷ [])
unfolding marked
marked_inv n one frames after e =
    let same = has_same_frame_num one frames in
    let full = leb (most_frames n) (length frames) in
    elim (same || full) as (λ b. (same || full) ≡ b → (if b then None else Some (frames ++ one ∷ [])) ≡ Some after → (same ≡ false) × (length frames < most_frames n) × (after ≡ frames ++ one ∷ [])) [
      | true ↦ λ b h. absurd (none_some after h)
      | false ↦ λ b h. (let no = or_parts same full b in (no.0, leb-false (most_frames n) (length frames) no.1, sym (same_some (frames ++ one ∷ []) after h)))
    ] refl e

kinds : (one : Reference) (frames : List Reference) → has_same_frame_num one frames ≡ false → (one.is_long_term ≡ true → list_any (is_long_at one.frame_idx) frames ≡ false)
    → (if one.is_long_term then list_any (is_long_at one.frame_idx) frames else list_any (λ other. not other.is_long_term && eqb other.frame_idx one.frame_idx) frames) ≡ false
kinds one frames same long =
    let s = list_any (λ (other : Reference). not other.is_long_term && eqb other.frame_idx one.frame_idx) frames in
    let l = list_any (is_long_at one.frame_idx) frames in
    elim one.is_long_term as (λ b. (not b && s) ≡ false → (b ≡ true → l ≡ false) → (if b then l else s) ≡ false) [
      | true ↦ λ h f. f refl
      | false ↦ λ h f. h
    ] same long

pub marked_more : (n : Numbers) (k : ℕ) (one : Reference) (frames after : List Reference) → marked n one frames ≡ Some after → n.max_num_ref_frames ≤ 16 → AreMarked k frames
    → is_unused one ≡ false → is_reference_accepted k one ≡ true → list_all (has_other one.surface) frames ≡ true → (one.is_long_term ≡ true → list_any (is_long_at one.frame_idx) frames ≡ false)
    → AreMarked k after
marked_more n k one frames after e few h used accepted other long =
    let inv = marked_inv n one frames after e in
    let size = length-append frames (one ∷ []) in
    let below = inv.1 in
    let most = most_16 n few in
    subst (AreMarked k) (sym inv.2) (record {
      most = omega (arith, size, below, most);
      used = any_push is_unused frames one h.used used;
      accepted = all_push (is_reference_accepted k) frames one h.accepted accepted;
      apart = apart_more one frames h.apart (kinds one frames inv.0 long) other;
    })

-- ---- gaps

others_absent : (frames : List Reference) → list_all (has_other ABSENT_SURFACE) frames ≡ true
others_absent [] = refl
others_absent (x ∷ xs) = and_from (has_other ABSENT_SURFACE x) (list_all (has_other ABSENT_SURFACE) xs)
    (elim (is_absent x) as (λ b. (b || not b) ≡ true) [ true ↦ refl | false ↦ refl ])
    (others_absent xs)

absent_accepted : (k frame_num : ℕ) → frame_num < k → is_reference_accepted k (absent_frame frame_num) ≡ true
absent_accepted k frame_num below = lt-ltb frame_num k below

not_long : false ≡ true → ⊥
not_long e = cc

pub after_below : (limit frame_num : ℕ) → frame_num < limit → after_frame_num limit frame_num < limit
after_below limit frame_num below = omega arith

pub known_absent : (n : Numbers) (k : ℕ) (Q : ℕ → Type 0) (frames after : List Reference) → marked_absent n frames ≡ Some after → n.max_num_ref_frames ≤ 16 → n.frame_num < k → AreKnown k Q frames → AreKnown k Q after
unfolding marked_absent
known_absent n k Q frames after e few below h =
    let one = absent_frame n.frame_num in
    let first = and_then_some (marked n one) (slid n frames) after e in
    let left = first.0 in
    let known = known_part k Q left frames (slid_part n frames left first.1) h in
    let inv = marked_inv n one left after first.2 in
    record {
      marked = marked_more n k one left after first.2 few known.marked refl (absent_accepted k n.frame_num below) (others_absent left) (λ long. absurd (not_long long));
      surfaces = subst (AreOf Q) (sym inv.2) (of_push Q left one known.surfaces (λ no. absurd (not_long (sym no))));
    }

pub known_filled : (missing : ℕ) (n : Numbers) (Q : ℕ → Type 0) (frames after : List Reference) → filled missing n frames ≡ Some after → n.max_num_ref_frames ≤ 16 → n.frame_num < n.max_frame_num
    → AreKnown n.max_frame_num Q frames → AreKnown n.max_frame_num Q after
unfolding filled
known_filled zero n Q frames after e few below h = subst (AreKnown n.max_frame_num Q) (same_some frames after e) h
known_filled (suc missing) n Q frames after e few below h =
    let next : Numbers = record n { frame_num = after_frame_num n.max_frame_num n.frame_num } in
    let first = and_then_some (filled missing next) (marked_absent n frames) after e in
    known_filled missing next Q first.0 after first.2 few (after_below n.max_frame_num n.frame_num below) (known_absent n n.max_frame_num Q frames first.0 first.1 few below h)
