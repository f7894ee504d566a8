-- A marker that stands for pictures stands, behind one more, for these and that one.
use Rattle.std.proofs.Common.{◌≡◌, ℕ, false, ◌+◌, ◌<◌, ◌≤◌, ◌^◌, List, [], ◌∷◌, ◌++◌, length, Some, Ok, refl, sym, ap, ◌∙◌, subst, length-append}
use mir.Syntax.{w32}
use mir.Val.{SFits}
use Rattle.std.specs.List.{list_any}
use Rattle.std.specs.Option.{option_and_then}
use Rattle.std.proofs.lemmas.Bool.{eqb-false, or_parts}
use Rattle.std.proofs.lemmas.List.Elements.{All-cons, All-head, All-nil, All-tail}
use Rattle.cb_types.specs.References.{is_absent, is_unused}
use Rattle.cb_types.specs.declared.header.Header.{Header}
use Rattle.cb_types.specs.declared.picture_info.Reference.{Reference}
use Rattle.param_sets.specs.declared.pps.Pps.{Pps}
use Rattle.param_sets.specs.declared.sps.Sps.{Sps}
use Rattle.marking.specs.Begun.{begun_of, marker_after, numbers_of, settled_of, settled_with}
use Rattle.marking.specs.Frames.{has_number}
use Rattle.marking.specs.History.{AreMarked, AreNamed, IsNamed, is_of_idr, number_of, own_number, HasRanges, MayBegin, Picture, StandsFor, after_settled, last_max_frame_num, no_pictures}
use Rattle.marking.specs.declared.begun.Begun.{Begun}
use Rattle.marking.specs.declared.counts.Counts.{Counts}
use Rattle.marking.specs.declared.marker.Marker.{Marker}
use Rattle.marking.specs.declared.marker.Settled.{Settled}
use Rattle.marking.specs.declared.numbers.Numbers.{Numbers}
use Rattle.marking.proofs.HistoryLemmas.{after_more, counts_in, info_numbers, max_small, ranges_after, settled_again}
use Rattle.marking.proofs.MarkedLemmas.{AreOf}
use Rattle.marking.proofs.NamedLemmas.{named_more, named_own}
use Rattle.marking.proofs.SettledLemmas.{last_max_push, marks_known, settled_known}
use Rattle.marking.proofs.SomeLemmas.{same_some}

-- the surfaces of named frames
pub named_surfaces : (pictures : List Picture) (frames : List Reference) → list_any is_unused frames ≡ false → AreNamed pictures frames → AreOf (IsNamed pictures) frames
named_surfaces pictures [] used h = tt
named_surfaces pictures (x ∷ xs) used h =
    let no = or_parts (is_unused x) (list_any is_unused xs) used in
    let Q : Reference → Type 0 = λ frame. is_unused frame ≡ false → is_absent frame ≡ false → IsNamed pictures frame.surface in
    (All-head Q x xs h no.0, named_surfaces pictures xs no.1 (All-tail Q x xs h))

pub surfaces_named : (pictures : List Picture) (frames : List Reference) → AreOf (IsNamed pictures) frames → AreNamed pictures frames
surfaces_named pictures [] h = All-nil (λ frame. is_unused frame ≡ false → is_absent frame ≡ false → IsNamed pictures frame.surface)
surfaces_named pictures (x ∷ xs) h =
    let Q : Reference → Type 0 = λ frame. is_unused frame ≡ false → is_absent frame ≡ false → IsNamed pictures frame.surface in
    All-cons Q x xs (λ used. h.0) (surfaces_named pictures xs h.1)

-- The frames before a picture that isn't IDR, none of which has its own number, are named behind it too.
stay_named : (pictures : List Picture) (picture : Picture) (number : ℕ) (frames : List Reference) → own_number pictures picture ≡ Some number → is_of_idr picture ≡ false
    → list_any (has_number number) frames ≡ false → AreOf (IsNamed pictures) frames → AreOf (IsNamed (pictures ++ picture ∷ [])) frames
stay_named pictures picture number [] own idr free h = tt
stay_named pictures picture number (x ∷ xs) own idr free h =
    let no = or_parts (has_number number x) (list_any (has_number number) xs) free in (
      λ here. named_more pictures picture x.surface (h.0 here) idr (λ same. eqb-false x.surface number no.0 (same_some x.surface number (sym same ∙ own))),
      stay_named pictures picture number xs own idr no.1 h.1,
    )

-- the own number of the picture that is settled
pub number_settled : (marker : Marker) (pictures : List Picture) (sps : Sps) (header : Header) (s : Settled) → StandsFor marker pictures → settled_of marker sps header ≡ Ok s
    → own_number pictures (record { sps = sps; header = header }) ≡ Some s.number
number_settled marker pictures sps header s stands e = ap (option_and_then (λ (m : Marker). number_of (settled_of m sps header))) stands.after ∙ ap number_of e

pub stands_after : (marker next : Marker) (pictures : List Picture) (sps : Sps) (pps : Pps) (begun : Begun) (settled : Settled)
    → StandsFor marker pictures → MayBegin pictures sps pps begun.header → begun_of marker sps pps begun.header ≡ Ok begun
    → Some settled ≡ settled_with marker (info_numbers begun) begun.header (counts_in begun)
    → next ≡ marker_after marker (info_numbers begun) begun.header settled
    → settled.marks.indices ≤ 16 → SFits w32 (counts_in begun).top → SFits w32 (counts_in begun).bottom → begun.header.poc_lsb < 2 ^ 32
    → StandsFor next (pictures ++ record { sps = sps; header = begun.header } ∷ [])
stands_after marker next pictures sps pps begun settled stands may e found step few top bottom lsb =
    let picture : Picture = record { sps = sps; header = begun.header } in
    let again = settled_again marker sps pps begun e in
    let s = again.0 in
    let same : settled ≡ s = same_some settled s (found ∙ again.2) in
    let n = numbers_of sps begun.header in
    let is : next ≡ marker_after marker n begun.header s =
    step ∙ ap (λ (m : Numbers). marker_after marker m begun.header settled) again.3 ∙ ap (λ (t : Settled). marker_after marker n begun.header t) same in
    let own = number_settled marker pictures sps begun.header s stands again.1 in
    let known = settled_known (IsNamed pictures) marker pictures sps pps begun.header s stands may (named_surfaces pictures marker.frames stands.frames.used stands.named) again.1 in
    let behind = marks_known (IsNamed pictures) (IsNamed (pictures ++ picture ∷ [])) marker pictures sps pps begun.header s stands may again.1 known
    (λ idr. stay_named pictures picture s.number s.frames own idr known.free (known.known idr).surfaces) (named_own pictures picture s.number own) in
    let small = max_small sps may.sps_accepted.log2_max_frame_num_minus4 in
    let I : Settled → Type 0 = λ t. t.marks.indices ≤ 16 in
    let T : Counts → Type 0 = λ k. SFits w32 k.top in
    let B : Counts → Type 0 = λ k. SFits w32 k.bottom in
    let R : Marker → Type 0 = λ m. HasRanges m (length pictures + 1) in
    let L : ℕ → Type 0 = λ k. HasRanges next k in
    record {
      after = after_more pictures picture no_pictures marker next stands.after
          (ap (after_settled marker picture) again.1 ∙ ap (λ (m : Marker). Some m) (sym is));
      ranges = subst L (sym (length-append pictures (picture ∷ [])))
          (subst R (sym is) (ranges_after marker n begun.header s (length pictures) stands.ranges may.frame_num small refl (subst I same few) (subst T (sym again.4) top) (subst B (sym again.4) bottom) lsb));
      frames = subst (λ (m : Marker). AreMarked (last_max_frame_num (pictures ++ picture ∷ [])) m.frames) (sym is)
          (subst (λ (k : ℕ). AreMarked k s.marks.frames) (sym (last_max_push pictures picture)) behind.marked);
      named = subst (λ (m : Marker). AreNamed (pictures ++ picture ∷ []) m.frames) (sym is) (surfaces_named (pictures ++ picture ∷ []) s.marks.frames behind.surfaces);
    }
