-- What is known of the frames before and behind a picture that is settled.
use Rattle.std.proofs.Common.{◌≡◌, ℕ, ◌<◌, ◌≤◌, Bool, true, false, if◌then◌else◌, List, [], ◌∷◌, ◌++◌, length, Option, Some, Ok, refl, sym, ap, subst, arith}
use Rattle.std.specs.Prelude.{unwrap_or}
use Rattle.std.specs.List.{list_any}
use Rattle.std.specs.Option.{option_map_or}
use Rattle.cb_types.specs.Slices.{is_idr}
use Rattle.cb_types.specs.declared.header.Header.{Header}
use Rattle.cb_types.specs.declared.picture_info.Reference.{Reference}
use Rattle.param_sets.specs.declared.pps.Pps.{Pps}
use Rattle.param_sets.specs.declared.sps.Sps.{Sps}
use Rattle.marking.specs.Begun.{frames_before, max_frame_num, missing, next_frame_num, numbers_of, settled_by, settled_of, settled_with}
use Rattle.marking.specs.Frames.{filled, free_number, has_number}
use Rattle.marking.specs.History.{AreMarked, MayBegin, Picture, StandsFor, last_max_frame_num, last_sps}
use Rattle.marking.specs.Operations.{marks_after}
use Rattle.marking.specs.declared.counts.Counts.{Counts}
use Rattle.marking.specs.declared.marker.Marker.{Marker}
use Rattle.marking.specs.declared.marker.Settled.{Settled}
use Rattle.marking.specs.declared.marks.Marks.{Marks}
use Rattle.marking.specs.declared.marks.Own.{Own}
use Rattle.marking.specs.declared.numbers.Numbers.{Numbers}
use Rattle.marking.proofs.HistoryLemmas.{settled_inv}
use Rattle.marking.proofs.MarkedLemmas.{AreKnown, AreOf, known_filled}
use Rattle.marking.proofs.NumberLemmas.{free_number_is_least, number_few}
use Rattle.marking.proofs.OperationLemmas.{known_after}
use Rattle.marking.proofs.SomeLemmas.{and_then_some, map_some, same_some}

-- the picture itself, as it is settled
abbrev pub own_of : Numbers → Settled → Own
own_of n s = record { number = s.number; frame_num = n.frame_num; counts = s.counts }

-- the parts of what is settled
pub settled_parts : (marker : Marker) (n : Numbers) (header : Header) (counts : Counts) (s : Settled) → settled_with marker n header counts ≡ Some s
    → (frames_before marker n header ≡ Some s.frames) × (s.number ≡ free_number s.frames) × (marks_after n (own_of n s) header s.frames marker.indices header.marking ≡ Some s.marks)
unfolding settled_with
settled_parts marker n header counts s e =
    let first = and_then_some (λ (frames : List Reference). settled_by header counts frames n marker.indices) (frames_before marker n header) s e in
    let frames = first.0 in
    let number = free_number frames in
    let second = map_some (λ (marks : Marks). record { frames = frames; number = number; counts = counts; marks = marks })
    (marks_after n (record { number = number; frame_num = n.frame_num; counts = counts }) header frames marker.indices header.marking) s first.2 in
    subst (λ (t : Settled). (frames_before marker n header ≡ Some t.frames) × (t.number ≡ free_number t.frames) × (marks_after n (own_of n t) header t.frames marker.indices header.marking ≡ Some t.marks))
    second.2 (first.1, refl, second.1)

-- ---- the frames before a picture

next_below : (marker : Marker) (n : Numbers) → 0 < n.max_frame_num → next_frame_num marker n < n.max_frame_num
next_below marker n some = omega arith

before_known : (marker : Marker) (n : Numbers) (header : Header) (Q : ℕ → Type 0) (frames : List Reference) → frames_before marker n header ≡ Some frames → is_idr header ≡ false
    → n.max_num_ref_frames ≤ 16 → 0 < n.max_frame_num → AreKnown n.max_frame_num Q marker.frames → AreKnown n.max_frame_num Q frames
before_known marker n header Q frames e idr few some h =
    let from : Numbers = record n { frame_num = next_frame_num marker n } in
    let o = filled (missing marker n) from marker.frames in
    let f : o ≡ Some frames = subst (λ (b : Bool). (if b then Some marker.frames else o) ≡ Some frames) idr e in
    known_filled (missing marker n) from Q marker.frames frames f few (next_below marker n some) h

before_idr : (marker : Marker) (n : Numbers) (header : Header) (frames : List Reference) → frames_before marker n header ≡ Some frames → is_idr header ≡ true → marker.frames ≡ frames
before_idr marker n header frames e idr =
    let o = filled (missing marker n) (record n { frame_num = next_frame_num marker n }) marker.frames in
    same_some marker.frames frames (subst (λ (b : Bool). (if b then Some marker.frames else o) ≡ Some frames) idr e)

-- The frames before a picture that isn't IDR are known; its own number is free.
pub record IsSettled (k : ℕ) (Q : ℕ → Type 0) (header : Header) (s : Settled) : Type 0 where
  pub known : is_idr header ≡ false → AreKnown k Q s.frames
  pub few : s.number ≤ 16
  pub free : list_any (has_number s.number) s.frames ≡ false

few_number : (s : Settled) → s.number ≡ free_number s.frames → length s.frames ≤ 16 → s.number ≤ 16
few_number s e most = let less = number_few s.frames in omega (arith, less, e)

last_max : (pictures : List Picture) (sps : Sps) → last_sps pictures ≡ Some sps → last_max_frame_num pictures ≡ max_frame_num sps
last_max pictures sps e = ap (λ (o : Option Sps). option_map_or max_frame_num o 0) e

frames_few : (marker : Marker) (n : Numbers) (header : Header) (Q : ℕ → Type 0) (s : Settled) → frames_before marker n header ≡ Some s.frames → length marker.frames ≤ 16
    → (is_idr header ≡ false → AreKnown n.max_frame_num Q s.frames) → length s.frames ≤ 16
frames_few marker n header Q s e most known =
    elim (is_idr header) as (λ b. is_idr header ≡ b → length s.frames ≤ 16) [
      | true ↦ λ idr. subst (λ (xs : List Reference). length xs ≤ 16) (before_idr marker n header s.frames e idr) most
      | false ↦ λ idr. (known idr).marked.most
    ] refl

pub settled_known : (Q : ℕ → Type 0) (marker : Marker) (pictures : List Picture) (sps : Sps) (pps : Pps) (header : Header) (s : Settled) → StandsFor marker pictures → MayBegin pictures sps pps header
    → AreOf Q marker.frames → settled_of marker sps header ≡ Ok s → IsSettled (max_frame_num sps) Q header s
settled_known Q marker pictures sps pps header s stands may surfaces e =
    let n = numbers_of sps header in
    let inv = settled_inv marker sps header s e in
    let parts = settled_parts marker n header inv.0 s inv.2 in
    let below = may.frame_num in
    let known : is_idr header ≡ false → AreKnown (max_frame_num sps) Q s.frames =
    λ idr. before_known marker n header Q s.frames parts.0 idr may.sps_accepted.max_num_ref_frames (omega (arith, below))
    (record { marked = subst (λ (k : ℕ). AreMarked k marker.frames) (last_max pictures sps (may.sequence idr)) stands.frames; surfaces = surfaces }) in
    record {
      known = known;
      few = few_number s parts.1 (frames_few marker n header Q s parts.0 stands.frames.most known);
      free = subst (λ (number : ℕ). list_any (has_number number) s.frames ≡ false) (sym parts.1) (free_number_is_least s.frames).free;
    }

-- ---- the frames behind it

pub marks_known : (Q R : ℕ → Type 0) (marker : Marker) (pictures : List Picture) (sps : Sps) (pps : Pps) (header : Header) (s : Settled) → StandsFor marker pictures → MayBegin pictures sps pps header
    → settled_of marker sps header ≡ Ok s → IsSettled (max_frame_num sps) Q header s → (is_idr header ≡ false → AreOf R s.frames) → R s.number → AreKnown (max_frame_num sps) R s.marks.frames
marks_known Q R marker pictures sps pps header s stands may e h surfaces own =
    let n = numbers_of sps header in
    let inv = settled_inv marker sps header s e in
    let parts = settled_parts marker n header inv.0 s inv.2 in
    known_after (max_frame_num sps) R n (own_of n s) header s.frames marker.indices header.marking s.marks parts.2 may.sps_accepted.max_num_ref_frames may.frame_num h.few own stands.ranges.indices
    (λ idr. record { marked = (h.known idr).marked; surfaces = surfaces idr }) may.marking h.free

-- ---- the sequence set of the last picture

last_push : (pictures : List Picture) (picture : Picture) → last_sps (pictures ++ picture ∷ []) ≡ Some picture.sps
last_push [] picture = refl
last_push (first ∷ pictures) picture = ap (λ (o : Option Sps). Some (unwrap_or o first.sps)) (last_push pictures picture)

pub last_max_push : (pictures : List Picture) (picture : Picture) → last_max_frame_num (pictures ++ picture ∷ []) ≡ max_frame_num picture.sps
last_max_push pictures picture = last_max (pictures ++ picture ∷ []) picture.sps (last_push pictures picture)
