-- The pictures of a sequence: their sequence set, and which of them references are.
use Rattle.std.proofs.Common.{◌≡◌, ℕ, zero, suc, ◌-◌, ◌≤◌, Bool, true, false, if◌then◌else◌, List, [], ◌∷◌, ◌++◌, length, map, replicate, reverse, Ok, refl, sym, ap, ◌∙◌, subst, arith, inl, inr, eq-eqb}
use Rattle.std.specs.Prelude.{All}
use Rattle.std.proofs.lemmas.Bool.{le-leb, leb-true}
use Rattle.std.proofs.lemmas.List.Elements.{All-cons, All-nil, All-replicate, All-weaker}
use Rattle.cb_types.specs.AcceptedInfo.{IsAccepted}
use Rattle.cb_types.specs.References.{is_absent, is_unused}
use Rattle.cb_types.specs.Slices.{is_idr}
use Rattle.cb_types.specs.declared.header.Header.{Header}
use Rattle.cb_types.specs.declared.picture_info.PictureInfo.{PictureInfo}
use Rattle.cb_types.specs.declared.picture_info.Reference.{Reference}
use Rattle.marking.specs.Begun.{begun_of, references_of, settled_of, unused}
use Rattle.marking.specs.History as marks
use Rattle.marking.specs.declared.begun.Begun.{Begun}
use Rattle.marking.specs.declared.marker.Marker.{Marker}
use Rattle.marking.proofs.HistoryLemmas.{ok_inv}
use Rattle.marking.proofs.NamedLemmas.{named_behind}
use Rattle.param_sets.specs.Sps.{size_of}
use Rattle.param_sets.specs.declared.pps.Pps.{Pps}
use Rattle.param_sets.specs.declared.sps.Sps.{Sps}
use Rattle.access_units.specs.AccessUnits.{AccessUnit}
use Rattle.access_units.specs.Pictures.{ArePictures, BeginsBehind, IsPicture, IsSameSet, Picture, has_number, marked_of, size_in}
use Rattle.access_units.specs.Sequences.{AreOfSequence, HasNoneAtIdr, IsOfSequence, SequencesHaveOneSet, sequence_of}
use Rattle.access_units.specs.Stands.{HaveOwnNumbers}
use Rattle.access_units.specs.declared.content.Named.{Named}
use Rattle.access_units.proofs.PictureLemmas.{begun_header, has_frame, marked_more, no_middle, number_named, or_first, or_second, own_few, some_number}

-- ---- the sequence set

abbrev HasSet : Sps → Picture → Type 0
HasSet sps picture = picture.sps ≡ sps

-- a picture that isn't IDR has the set of the one before
set_before : (before : List Picture) (au : AccessUnit) (picture : Picture) → IsPicture before au picture → is_idr picture.begun.header ≡ false → IsSameSet before picture.sps
set_before before au picture is idr =
    let named = is.named in
    let header : picture.begun.header ≡ named.header =
    ap (λ (p : Picture). p.begun.header) is.is ∙ begun_header is.begins.marker named.sps named.pps named.header is.begun is.begins.begins in
    let sps : picture.sps ≡ named.sps = ap (λ (p : Picture). p.sps) is.is in
    subst (λ (s : Sps). IsSameSet before s) (sym sps) (is.begins.same_set (ap is_idr (sym header) ∙ idr))

pub in_one_set : (units : List AccessUnit) (pictures : List Picture) (sps : Sps) → ArePictures units pictures → IsSameSet pictures sps → All (HasSet sps) (sequence_of pictures)
unfolding ArePictures sequence_of
in_one_set units [] sps are same = absurd same
in_one_set [] (picture ∷ before) sps are same = absurd are
in_one_set (au ∷ earlier) (picture ∷ before) sps are same =
    elim (is_idr picture.begun.header) as (λ b. is_idr picture.begun.header ≡ b → All (HasSet sps) (picture ∷ (if b then [] else sequence_of before))) [
      | true ↦ λ idr. All-cons (HasSet sps) picture [] same (All-nil (HasSet sps))
      | false ↦ λ idr. All-cons (HasSet sps) picture (sequence_of before) same
          (in_one_set earlier before sps are.0 (subst (λ (s : Sps). IsSameSet before s) same (set_before before au picture are.1 idr)))
    ] refl

pub sequences_have_one_set : SequencesHaveOneSet
sequences_have_one_set units newest before are = in_one_set units (newest ∷ before) newest.sps are refl

-- the pictures before one that isn't IDR have its size
pub one_size : (units : List AccessUnit) (before : List Picture) (named : Named) (begun : Begun) → ArePictures units before → BeginsBehind before named begun → is_idr begun.header ≡ false
    → All (λ (picture : Picture). size_in picture ≡ size_of named.sps) (sequence_of before)
one_size units before named begun are begins idr =
    let header = begun_header begins.marker named.sps named.pps named.header begun begins.begins in
    let same : IsSameSet before named.sps = begins.same_set (ap is_idr (sym header) ∙ idr) in
    All-weaker (HasSet named.sps) (λ (picture : Picture). size_in picture ≡ size_of named.sps) (λ picture set. ap size_of set) (sequence_of before)
    (in_one_set units before named.sps are same)

-- ---- which pictures references are

number_there : (before : List Picture) (surface : ℕ) → HaveOwnNumbers before → marks.IsNamed (reverse (map marked_of before)) surface → has_number surface (sequence_of before) ≡ true
unfolding HaveOwnNumbers sequence_of
number_there [] surface numbers h = absurd (no_middle h.earlier h.later h.picture h.are_all)
number_there (last ∷ before) surface numbers h =
    let idr = is_idr last.begun.header in
    let rest : List Picture = if idr then [] else sequence_of before in
    let P : List marks.Picture → Type 0 = λ xs. marks.IsNamed xs surface in
    elim (named_behind (reverse (map marked_of before)) (marked_of last) surface (subst P (marked_more before last) h)) [
      | inl own ↦ or_first (has_frame surface last) (has_number surface rest) (eq-eqb last.begun.frame surface (some_number last.begun.frame surface (sym numbers.0.own ∙ own)))
      | inr stays ↦ or_second (has_frame surface last) (has_number surface rest)
          (subst (λ (b : Bool). has_number surface (if b then [] else sequence_of before) ≡ true) (sym stays.not_idr) (number_there before surface numbers.1 stays.before))
    ]

number_of_sequence : (before : List Picture) (surface : ℕ) → HaveOwnNumbers before → marks.IsNamed (reverse (map marked_of before)) surface → IsOfSequence before surface
number_of_sequence before surface numbers h = record {
  few = own_few before surface numbers (number_named before surface numbers h);
  there = number_there before surface numbers h;
}

pub all_of_sequence : (before : List Picture) (entries : List Reference) → HaveOwnNumbers before → marks.AreNamed (reverse (map marked_of before)) entries → AreOfSequence before entries
all_of_sequence before entries numbers h =
    All-weaker (λ (entry : Reference). is_unused entry ≡ false → is_absent entry ≡ false → marks.IsNamed (reverse (map marked_of before)) entry.surface)
    (λ (entry : Reference). is_unused entry ≡ false → is_absent entry ≡ false → IsOfSequence before entry.surface)
    (λ entry named used there. number_of_sequence before entry.surface numbers (named used there)) entries h

-- ---- an IDR picture

none_in : (header : Header) (frames : List Reference) → is_idr header ≡ true → All (λ (entry : Reference). is_unused entry ≡ true) (references_of header frames)
none_in header frames idr =
    let Q : Reference → Type 0 = λ entry. is_unused entry ≡ true in
    subst (λ (b : Bool). let used = if b then [] else frames in All Q (used ++ replicate (16 - length used) unused)) (sym idr) (All-replicate Q 16 unused refl)

pub none_at_idr : (marker : Marker) (sps : Sps) (pps : Pps) (header : Header) (begun : Begun) → begun_of marker sps pps header ≡ Ok begun → HasNoneAtIdr begun
none_at_idr marker sps pps header begun e = λ idr.
    let first = ok_inv sps pps header begun (settled_of marker sps header) e in
    let same : is_idr header ≡ true = ap is_idr (sym (begun_header marker sps pps header begun e)) ∙ idr in
    subst (λ (b : Begun). All (λ (entry : Reference). is_unused entry ≡ true) b.info.references) first.2 (none_in header first.0.frames same)

-- ---- the info

-- a decoder with 16 references takes it
pub with_most : (profile references : ℕ) (info : PictureInfo) → references ≤ 16 → IsAccepted profile references info → IsAccepted profile 16 info
with_most profile references info few taken zero within = refl
with_most profile references info few taken (suc zero) within = taken 1 within
with_most profile references info few taken (suc (suc zero)) within = taken 2 within
with_most profile references info few taken (suc (suc (suc zero))) within =
    le-leb info.num_ref_frames 16 (let less = leb-true info.num_ref_frames references (taken 3 within) in omega (arith, less, few))
with_most profile references info few taken (suc (suc (suc (suc field)))) within = taken (suc (suc (suc (suc field)))) within
