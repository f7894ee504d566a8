-- A decoder takes a renamed info where it took the one before.
use Rattle.std.proofs.Common.{◌≡◌, ◌≢◌, ℕ, zero, suc, ◌<◌, inl, inr, Bool, true, false, not, ◌&&◌, ◌||◌, eqb, List, [], ◌∷◌, length, map, set, get_or, get_or-set_other, refl, sym, ap, ◌∙◌, subst, arith}
use Rattle.std.specs.Prelude.{◌==◌, nat_le, nat_lt, if◌then◌else◌, slice_index_or}
use Rattle.std.specs.List.{list_all}
use Rattle.std.proofs.lemmas.Bool.{and_from, and_parts, both_ways, cases_Bool, cases_eq, cases_lt, eq-eqb, le-leb, leb-true, ne_eqb, not-true, not_from_false, or_cases, or_left, or_right}
use Rattle.cb_types.specs.AcceptedInfo.{IsAccepted, accepted_fields, are_all_apart, are_apart, is_reference_accepted, is_same_kind, max_frame_num}
use Rattle.cb_types.specs.References.{is_absent, is_unused}
use Rattle.cb_types.specs.declared.picture_info.PictureInfo.{PictureInfo}
use Rattle.cb_types.specs.declared.picture_info.Reference.{Reference}
use Rattle.cb_types.specs.declared.picture_info.TheConstants.{ABSENT_SURFACE}
use Rattle.recon.specs.References.{no_reference, reference_at}
use Rattle.decoder_render.specs.Renamed.{AcceptedSurfacesAreApart, AreSurfacesApart, IsRenamed, IsRenamedEntry, NamesSurface, RenamedInfosAreAccepted, WidestDecoderTakesAll, WidestDecoderTakesRenamed, with_references}
use Rattle.decoder_render.proofs.BareEntries.{bare, bare_absent, bare_unused}
use Rattle.decoder_render.proofs.RenamedInfos.{renamed_alike, unused_before}

-- ---- each entry alone

abbrev taken_by : ℕ → Reference → Bool → Bool → Bool
taken_by frame_nums entry unused absent =
    unused || (entry.top_is_reference && entry.bottom_is_reference
    && (if entry.is_long_term then nat_le entry.frame_idx 15 && not absent else nat_lt entry.frame_idx frame_nums))

taken_bare : (frame_nums : ℕ) (entry : Reference) → is_reference_accepted frame_nums (bare entry) ≡ is_reference_accepted frame_nums entry
taken_bare frame_nums entry =
    ap (λ (unused : Bool). taken_by frame_nums entry unused (is_absent (bare entry))) (bare_unused entry)
    ∙ ap (λ (absent : Bool). taken_by frame_nums entry (is_unused entry) absent) (bare_absent entry)

all_taken_bare : (frame_nums : ℕ) (entries : List Reference) → list_all (is_reference_accepted frame_nums) (map bare entries) ≡ list_all (is_reference_accepted frame_nums) entries
all_taken_bare frame_nums [] = refl
all_taken_bare frame_nums (entry ∷ later) =
    ap (λ (first : Bool). first && list_all (is_reference_accepted frame_nums) (map bare later)) (taken_bare frame_nums entry)
    ∙ ap (λ (others : Bool). is_reference_accepted frame_nums entry && others) (all_taken_bare frame_nums later)

taken_same : (frame_nums : ℕ) (old new : List Reference) → map bare old ≡ map bare new
    → list_all (is_reference_accepted frame_nums) old ≡ list_all (is_reference_accepted frame_nums) new
taken_same frame_nums old new alike =
    sym (all_taken_bare frame_nums old) ∙ (ap (list_all (is_reference_accepted frame_nums)) alike ∙ all_taken_bare frame_nums new)

-- ---- each two entries

all_at : (p : Reference → Bool) (entries : List Reference) (k : ℕ) → list_all p entries ≡ true → k < length entries → p (get_or entries k no_reference) ≡ true
all_at p [] k are inside = absurd (omega arith)
all_at p (entry ∷ later) zero are inside = (and_parts (p entry) (list_all p later) are).0
all_at p (entry ∷ later) (suc k) are inside = all_at p later k (and_parts (p entry) (list_all p later) are).1 (omega arith)

all_from : (p : Reference → Bool) (entries : List Reference) → ((k : ℕ) → k < length entries → p (get_or entries k no_reference) ≡ true) → list_all p entries ≡ true
all_from p [] each = refl
all_from p (entry ∷ later) each = and_from (p entry) (list_all p later) (each zero (omega arith)) (all_from p later (λ k inside. each (suc k) (omega arith)))

apart_at : (entries : List Reference) (i j : ℕ) → are_all_apart entries ≡ true → i < j → j < length entries → are_apart (get_or entries i no_reference) (get_or entries j no_reference) ≡ true
unfolding are_all_apart
apart_at [] i j are less inside = absurd (omega arith)
apart_at (entry ∷ later) i zero are less inside = absurd (omega arith)
apart_at (entry ∷ later) zero (suc j) are less inside = all_at (are_apart entry) later j (and_parts (list_all (are_apart entry) later) (are_all_apart later) are).0 (omega arith)
apart_at (entry ∷ later) (suc i) (suc j) are less inside = apart_at later i j (and_parts (list_all (are_apart entry) later) (are_all_apart later) are).1 (omega arith) (omega arith)

apart_from : (entries : List Reference) → ((i j : ℕ) → i < j → j < length entries → are_apart (get_or entries i no_reference) (get_or entries j no_reference) ≡ true) → are_all_apart entries ≡ true
unfolding are_all_apart
apart_from [] each = refl
apart_from (entry ∷ later) each =
    and_from (list_all (are_apart entry) later) (are_all_apart later)
    (all_from (are_apart entry) later (λ k inside. each zero (suc k) (omega arith) (omega arith)))
    (apart_from later (λ i j less inside. each (suc i) (suc j) (omega arith) (omega arith)))

-- two entries that are apart and name surfaces name different ones
abbrev differ : Reference → Reference → Bool
differ entry other = not (is_same_kind entry other && entry.frame_idx == other.frame_idx)

used_apart : (entry other : Reference) → are_apart entry other ≡ true → is_unused entry ≡ false → is_unused other ≡ false
    → (differ entry other && (is_absent entry || not (entry.surface == other.surface))) ≡ true
used_apart entry other are used other_used =
    elim (or_cases (is_unused entry || is_unused other) (differ entry other && (is_absent entry || not (entry.surface == other.surface))) are) [
      | inl one ↦ elim (or_cases (is_unused entry) (is_unused other) one) [
        | inl unused ↦ absurd (both_ways (is_unused entry) used unused)
        | inr unused ↦ absurd (both_ways (is_unused other) other_used unused)
      ]
      | inr apart ↦ apart
    ]

surfaces_differ : (entry other : Reference) → are_apart entry other ≡ true → NamesSurface entry → NamesSurface other → entry.surface ≢ other.surface
surfaces_differ entry other are names also same =
    let apart = and_parts (differ entry other) (is_absent entry || not (entry.surface == other.surface)) (used_apart entry other are names.used also.used) in
    elim (or_cases (is_absent entry) (not (entry.surface == other.surface)) apart.1) [
      | inl absent ↦ absurd (both_ways (is_absent entry) names.present absent)
      | inr other_surface ↦ absurd (both_ways (eqb entry.surface other.surface) (not-true (eqb entry.surface other.surface) other_surface) (eq-eqb entry.surface other.surface same))
    ]

pub accepted_apart : AcceptedSurfacesAreApart
accepted_apart profile most info accepted one other inside other_inside apart names also =
    let both = and_parts (list_all (is_reference_accepted (max_frame_num info)) info.references) (are_all_apart info.references) (accepted 19 (omega arith)) in
    elim (cases_lt one other) [
      | inl less ↦ surfaces_differ (reference_at info one) (reference_at info other) (apart_at info.references one other both.1 less other_inside) names also
      | inr le ↦
          let less : other < one = omega arith in
          λ same. surfaces_differ (reference_at info other) (reference_at info one) (apart_at info.references other one both.1 less inside) also names (sym same)
    ]

-- ---- each two renamed entries

module _ (old other_old new other : Reference) (is : IsRenamedEntry old new) (also : IsRenamedEntry other_old other) where
  differ_same : differ old other_old ≡ differ new other
  differ_same = sym (ap (λ (entry : Reference). differ entry other) is.others ∙ ap (λ (entry : Reference). differ old entry) also.others)

  surfaces_apart : is_unused new ≡ false → is_unused other ≡ false → (NamesSurface new → NamesSurface other → new.surface ≢ other.surface) → (is_absent new || not (new.surface == other.surface)) ≡ true
  surfaces_apart used other_used apart = elim (cases_Bool (is_absent new)) [
    | inl absent ↦ or_left (is_absent new) (not (new.surface == other.surface)) absent
    | inr present ↦ or_right (is_absent new) (not (new.surface == other.surface)) (not_from_false (eqb new.surface other.surface) (ne_eqb new.surface other.surface (λ same. elim (cases_Bool (is_absent other)) [
      | inl absent ↦ both_ways (is_absent new) present (ap (λ (s : ℕ). eqb s ABSENT_SURFACE) same ∙ absent)
      | inr other_present ↦ apart (record { used = used; present = present }) (record { used = other_used; present = other_present }) same
    ])))
  ]

  pair_apart : (NamesSurface new → NamesSurface other → new.surface ≢ other.surface) → are_apart old other_old ≡ true → are_apart new other ≡ true
  pair_apart apart are =
      let rest = differ new other && (is_absent new || not (new.surface == other.surface)) in
      elim (cases_Bool (is_unused new)) [
        | inl unused ↦ or_left (is_unused new || is_unused other) rest (or_left (is_unused new) (is_unused other) unused)
        | inr used ↦ elim (cases_Bool (is_unused other)) [
          | inl unused ↦ or_left (is_unused new || is_unused other) rest (or_right (is_unused new) (is_unused other) unused)
          | inr other_used ↦
              let before = used_apart old other_old are (unused_before old new is ∙ used) (unused_before other_old other also ∙ other_used) in
              or_right (is_unused new || is_unused other) rest
              (and_from (differ new other) (is_absent new || not (new.surface == other.surface))
              (sym differ_same ∙ (and_parts (differ old other_old) (is_absent old || not (old.surface == other_old.surface)) before).0) (surfaces_apart used other_used apart))
        ]
      ]

-- ---- all fields

references_taken : (old new : PictureInfo) → IsRenamed old new → AreSurfacesApart new
    → (list_all (is_reference_accepted (max_frame_num old)) old.references && are_all_apart old.references) ≡ true
    → (list_all (is_reference_accepted (max_frame_num old)) new.references && are_all_apart new.references) ≡ true
references_taken old new is apart are =
    let frame_nums = max_frame_num old in
    let both = and_parts (list_all (is_reference_accepted frame_nums) old.references) (are_all_apart old.references) are in
    let count = is.count in
    and_from (list_all (is_reference_accepted frame_nums) new.references) (are_all_apart new.references)
    (sym (taken_same frame_nums old.references new.references (renamed_alike old new is)) ∙ both.0)
    (apart_from new.references (λ i j less inside.
    let old_j : j < length old.references = omega (arith, count, inside) in
    let old_i : i < length old.references = omega (arith, less, old_j) in
    pair_apart (reference_at old i) (reference_at old j) (reference_at new i) (reference_at new j) (is.entries i old_i) (is.entries j old_j)
    (apart i j (omega (arith, less, inside)) inside (omega (arith, less)))
    (apart_at old.references i j both.1 less old_j)))

-- the fields but the references stay
field_kept : (profile most : ℕ) (info : PictureInfo) (entries : List Reference) (field : ℕ) → field ≢ 19
    → slice_index_or (accepted_fields profile most (with_references info entries)) field false ≡ slice_index_or (accepted_fields profile most info) field false
field_kept profile most info entries field other =
    let frame_nums = max_frame_num info in
    get_or-set_other (accepted_fields profile most info) 19 field (list_all (is_reference_accepted frame_nums) entries && are_all_apart entries) false other

accepted_with : (profile most : ℕ) (info : PictureInfo) (entries : List Reference)
    → (list_all (is_reference_accepted (max_frame_num info)) entries && are_all_apart entries) ≡ true
    → IsAccepted profile most info → IsAccepted profile most (with_references info entries)
accepted_with profile most info entries taken accepted field within = elim (cases_eq field 19) [
  | inl last ↦ subst (λ (number : ℕ). slice_index_or (accepted_fields profile most (with_references info entries)) number false ≡ true) (sym last) taken
  | inr other ↦ field_kept profile most info entries field other ∙ accepted field within
]

pub renamed_accepted : RenamedInfosAreAccepted
renamed_accepted profile most old new is apart accepted =
    subst (λ (info : PictureInfo). IsAccepted profile most info) (sym is.others)
    (accepted_with profile most old new.references (references_taken old new is apart (accepted 19 (omega arith))) accepted)

-- ---- the widest decoder

abbrev widest_fields : ℕ → ℕ → PictureInfo → List Bool
widest_fields profile most info =
    set (set (set (accepted_fields profile most info) 0 true) 3 (nat_le info.num_ref_frames 16)) 5 (not info.weighted_pred_flag || true)

widest_field : (profile most : ℕ) (info : PictureInfo) (field : ℕ) → IsAccepted profile most info → field < 20 → get_or (widest_fields profile most info) field false ≡ true
widest_field profile most info field accepted within =
    let fields = accepted_fields profile most info in
    let few = set fields 0 true in
    let frames = set few 3 (nat_le info.num_ref_frames 16) in
    let all = leb-true most 16 (accepted 0 (omega arith)) in
    let some = leb-true info.num_ref_frames most (accepted 3 (omega arith)) in
    elim (cases_eq field 5) [
      | inl here ↦ rw here (or_right (not info.weighted_pred_flag) true refl)
      | inr not_weights ↦ elim (cases_eq field 3) [
        | inl here ↦ rw here (le-leb info.num_ref_frames 16 (omega (arith, all, some)))
        | inr not_frames ↦ elim (cases_eq field 0) [
          | inl here ↦ rw here refl
          | inr not_first ↦
              get_or-set_other frames 5 field (not info.weighted_pred_flag || true) false not_weights
              ∙ (get_or-set_other few 3 field (nat_le info.num_ref_frames 16) false not_frames
              ∙ (get_or-set_other fields 0 field true false not_first ∙ accepted field within))
        ]
      ]
    ]

pub widest_takes : WidestDecoderTakesAll
widest_takes info some field within = widest_field some.0 some.1 info field some.2 within

pub widest_takes_renamed : WidestDecoderTakesRenamed
widest_takes_renamed old new some is apart = renamed_accepted 1 16 old new is apart (widest_takes old some)
