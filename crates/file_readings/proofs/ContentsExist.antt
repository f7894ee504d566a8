-- What a unit tells is there, as a value.
use Rattle.std.proofs.Common.{◌≡◌, ℕ, ◌-◌, ◌^◌, ◌==◌, Bool, true, false, ◌||◌, List, [], ◌++◌, Option, Some, None, inl, inr, ◌⊎◌, refl, sym, ap, subst, ◌∙◌, append_assoc}
use Rattle.bit_io.specs.Bits as bits
use Rattle.bit_io.specs.Bits.{bits_of}
use Rattle.bit_io.specs.Codewords as codewords
use Rattle.bit_io.specs.Codewords.{IsSe, IsU, IsUe}
use Rattle.bit_io.specs.Trailing.{EndsHere}
use Rattle.element_tables.specs.Syntax.{BeginsWith, IsRefused, Made, Rule, Se, Spells, Stops, Syntax, Takes, U, Ue}
use Rattle.element_tables.specs.declared.elements.Stop.{Stop}
use Rattle.element_tables.specs.declared.elements.Stop.TheVariants.{Malformed, OtherProfile}
use Rattle.param_sets.specs.Pps.{pic_parameter_set_data}
use Rattle.param_sets.specs.Sps as sequence
use Rattle.param_sets.specs.Sps.{seq_parameter_set_data, size_of}
use Rattle.param_sets.specs.declared.pps.Pps.{Pps}
use Rattle.param_sets.specs.declared.sps.Sps.{Sps}
use Rattle.access_units.specs.Contents.{IsAllowed, IsNamed, IsPictureSet, IsSequenceSet, IsSlice, Tells, WhereElse, has_first_bit, is_partition, is_slice, rbsp, type_of}
use Rattle.access_units.specs.Sets.{Sets}
use Rattle.access_units.specs.declared.content.Content.{Content}
use Rattle.access_units.specs.declared.content.Content.TheVariants.{Other, PictureSet, Refused, SequenceSet, Slice, TooLarge}
use Rattle.access_units.specs.declared.content.Named.{Named}
use Rattle.access_units.specs.Readable.{HasHeaderIn, IsSetNumber, set_number}
use Rattle.access_units.specs.Sets.{picture_set, sequence_set}
use Rattle.access_units.specs.Contents.{head_of}
use Rattle.access_units.proofs.ContentLemmas.{has_header, header_found, no_header, no_number, no_picture_set, no_sequence_set}
use Rattle.cb_types.specs.declared.header.Header.{Header}
use Rattle.cb_types.specs.declared.header.UnitHead.{UnitHead}
use Rattle.element_tables.proofs.Unique.{takes_or_stops}
use Rattle.marking.specs.HeaderInfo.{header_info}
use Rattle.slice_header.specs.Spelling.{slice_header}
use Rattle.finite.specs.Decided.{Decided}
use Rattle.finite.specs.Finite.{Finite}
use Rattle.finite.proofs.Deciding.{always, decided_as}
use Rattle.finite.proofs.Equal.{equal_booleans}
use Rattle.finite.proofs.Lists.{begins}
use Rattle.finite.proofs.Numbers.{integers_below, numbers_below, numbers_up_to}
use Rattle.file_readings.proofs.Decisions.{allowed_decided, ends_decided, more_decided, within_decided}

given : {P : Type 0} → P → P
given p = p

and_then : {P Q : Type 0} → P → (P → Q) → Q
and_then p next = next p

-- ---- bits are read by a table, or stop it

abbrev IsReadBy : {A : Type 0} → Syntax A → List Bool → Type 0
IsReadBy {A} table whole = ((made : A) × ((rest : List Bool) × Takes table whole made rest)) ⊎ ((stop : Stop) × Stops table whole stop)

-- so of an element and those behind it
abbrev IsElement : {A V : Type 0} → (V → Type 0) → (V → List Bool) → Rule V → (V → Syntax A) → List Bool → Type 0
IsElement {A} IsValue code rule more whole =
    ((made : A) × ((rest : List Bool) × ((front : List Bool) × BeginsWith IsValue code rule (λ v r. Spells (more v) r made) front × (whole ≡ front ++ rest))))
    ⊎ ((stop : Stop) × (IsRefused IsValue code rule whole stop ⊎ BeginsWith IsValue code rule (λ v r. Stops (more v) r stop) whole))

by_rule : {A V : Type 0} (IsValue : V → Type 0) (code : V → List Bool) (rule : Rule V) (more : V → Syntax A) (whole : List Bool) (v : V) (rest : List Bool) → IsValue v → whole ≡ code v ++ rest
    → (o : Option Stop) → rule v ≡ o → (IsReadBy (more v) rest) → (IsElement IsValue code rule more whole)
by_rule IsValue code rule more whole v rest is same (Some stop) refused next = given (inr (stop, inl (inr (v, rest, is, refused, same))))
by_rule IsValue code rule more whole v rest is same None accepted next = and_then next (λ read. given (elim read as (λ _. IsElement IsValue code rule more whole) [
  | inl taken ↦
      let t = taken.1.1 in
      inl (taken.0, (taken.1.0, (code v ++ t.front, (v, t.front, is, accepted, refl, t.spelled), same ∙ ap (λ (xs : List Bool). code v ++ xs) t.parts ∙ sym (append_assoc (code v) t.front taken.1.0))))
  | inr stops ↦ inr (stops.0, inr (v, rest, is, accepted, same, stops.1))
]))

-- whether a codeword of some value begins the bits
begun_decided : {V : Type 0} (IsValue : V → Type 0) (code : V → List Bool) (whole : List Bool) → Finite IsValue
    → ((v : V) × ((rest : List Bool) × IsValue v × (whole ≡ code v ++ rest))) ⊎ (((v : V) × ((rest : List Bool) × IsValue v × (whole ≡ code v ++ rest))) → ⊥)
begun_decided IsValue code whole values =
    decided_as (λ found. (found.0, (found.2.0, found.1, found.2.1))) (λ found. (found.0, found.1.1, (found.1.0, found.1.2, tt)))
    (values.find (λ v. (rest : List Bool) × (whole ≡ code v ++ rest) × Unit {0}) (λ v is. begins equal_booleans (code v) whole (λ rest. Unit {0}) (λ rest e. always tt)))

one_element : {A V : Type 0} (IsValue : V → Type 0) (code : V → List Bool) (rule : Rule V) (more : V → Syntax A) (whole : List Bool) → Finite IsValue → ((v : V) (rest : List Bool) → (IsReadBy (more v) rest))
    → (IsElement IsValue code rule more whole)
one_element {A} {V} IsValue code rule more whole values next =
    and_then (begun_decided IsValue code whole values) (λ found. elim found as (λ _. (IsElement IsValue code rule more whole)) [
      | inl one ↦ by_rule IsValue code rule more whole one.0 one.1.0 one.1.1 one.1.2 (rule one.0) refl (next one.0 one.1.0)
      | inr none ↦ given (inr (Malformed, inl (inl ((λ v rest is same. none (v, (rest, is, same))), refl))))
    ])

read_by : {A : Type 0} (table : Syntax A) (whole : List Bool) → (IsReadBy table whole)
read_by (Made a) whole = given (inl (a, (whole, record { front = []; spelled = (refl, refl); parts = refl })))
read_by (U n rule more) whole = and_then (one_element (IsU n) (λ v. bits.u v n) rule more whole (numbers_below (2 ^ n)) (λ v rest. read_by (more v) rest)) (λ e. given (elim e as (λ _. IsReadBy (U n rule more) whole) [
  | inl t ↦ inl (t.0, (t.1.0, record { front = t.1.1.0; spelled = t.1.1.1; parts = t.1.1.2 }))
  | inr s ↦ inr s
]))
read_by (Ue rule more) whole = and_then (one_element IsUe codewords.ue rule more whole (numbers_up_to (2 ^ 32 - 2)) (λ v rest. read_by (more v) rest)) (λ e. given (elim e as (λ _. IsReadBy (Ue rule more) whole) [
  | inl t ↦ inl (t.0, (t.1.0, record { front = t.1.1.0; spelled = t.1.1.1; parts = t.1.1.2 }))
  | inr s ↦ inr s
]))
read_by (Se rule more) whole = and_then (one_element IsSe codewords.se rule more whole (integers_below (2 ^ 31)) (λ v rest. read_by (more v) rest)) (λ e. given (elim e as (λ _. IsReadBy (Se rule more) whole) [
  | inl t ↦ inl (t.0, (t.1.0, record { front = t.1.1.0; spelled = t.1.1.1; parts = t.1.1.2 }))
  | inr s ↦ inr s
]))

-- ---- a sequence set

abbrev OfSequence : List ℕ → Type 0
OfSequence unit = (content : Content) × IsSequenceSet unit content

sequence_stopped : (unit : List ℕ) (stop : Stop) → Stops seq_parameter_set_data (bits_of (rbsp unit)) stop → OfSequence unit
sequence_stopped unit Malformed stops = (Refused, λ allowed. inl (inl stops))
sequence_stopped unit OtherProfile stops = (Refused, λ allowed. inr stops)

sequence_spelled : (unit : List ℕ) (s : Sps) → IsAllowed unit → sequence.IsSpelledSps (rbsp unit) s → (OfSequence unit)
sequence_spelled unit s allowed spelled = and_then (within_decided (size_of s)) (λ w. given (elim w as (λ _. OfSequence unit) [
  | inl within ↦ (SequenceSet s, (allowed, (spelled, within)))
  | inr beyond ↦ (TooLarge, (allowed, (s, spelled, beyond)))
]))

sequence_ends : (unit : List ℕ) (made : Sps × Bool) (rest : List Bool) → IsAllowed unit → Takes seq_parameter_set_data (bits_of (rbsp unit)) made rest → (vui : Bool) → made.1 ≡ vui → EndsHere rest ⊎ (EndsHere rest → ⊥)
    → (OfSequence unit)
sequence_ends unit made rest allowed taken true on ends = sequence_spelled unit made.0 allowed (made.1, rest, taken, inl on)
sequence_ends unit made rest allowed taken false off (inl ends) = sequence_spelled unit made.0 allowed (made.1, rest, taken, inr ends)
sequence_ends unit made rest allowed taken false off (inr open_end) =
    given (Refused, λ also. inl (inr (made.0, rest, subst (λ (vui : Bool). Takes seq_parameter_set_data (bits_of (rbsp unit)) (made.0, vui) rest) off taken, open_end)))

sequence_allowed : (unit : List ℕ) → IsAllowed unit → (OfSequence unit)
sequence_allowed unit allowed = and_then (read_by seq_parameter_set_data (bits_of (rbsp unit))) (λ read. elim read as (λ _. (OfSequence unit)) [
  | inl taken ↦ and_then (ends_decided taken.1.0) (λ ends. sequence_ends unit taken.0 taken.1.0 allowed taken.1.1 taken.0.1 refl ends)
  | inr stops ↦ given (sequence_stopped unit stops.0 stops.1)
])

sequence_some : (unit : List ℕ) → (OfSequence unit)
sequence_some unit = and_then (allowed_decided unit) (λ a. elim a as (λ _. (OfSequence unit)) [
  | inl allowed ↦ sequence_allowed unit allowed
  | inr none ↦ given (Refused, λ allowed. absurd (none allowed))
])

-- ---- a picture set

abbrev OfPicture : List ℕ → Type 0
OfPicture unit = (content : Content) × IsPictureSet unit content

picture_stopped : (unit : List ℕ) (stop : Stop) → Stops pic_parameter_set_data (bits_of (rbsp unit)) stop → OfPicture unit
picture_stopped unit Malformed stops = (Refused, λ allowed. inl (inl stops))
picture_stopped unit OtherProfile stops = (Refused, λ allowed. inr (inl stops))

picture_ends : (unit : List ℕ) (p : Pps) (rest : List Bool) → IsAllowed unit → Takes pic_parameter_set_data (bits_of (rbsp unit)) p rest → EndsHere rest ⊎ (EndsHere rest → ⊥) → (OfPicture unit)
picture_ends unit p rest allowed taken (inl ends) = given (PictureSet p, (allowed, (rest, taken, ends)))
picture_ends unit p rest allowed taken (inr open_end) = and_then (more_decided rest) (λ m. given (elim m as (λ _. OfPicture unit) [
  | inl more ↦ (Refused, λ also. inr (inr (p, rest, taken, more)))
  | inr no_more ↦ (Refused, λ also. inl (inr (p, rest, taken, open_end, no_more)))
]))

picture_allowed : (unit : List ℕ) → IsAllowed unit → (OfPicture unit)
picture_allowed unit allowed = and_then (read_by pic_parameter_set_data (bits_of (rbsp unit))) (λ read. elim read as (λ _. (OfPicture unit)) [
  | inl taken ↦ and_then (ends_decided taken.1.0) (λ ends. picture_ends unit taken.0 taken.1.0 allowed taken.1.1 ends)
  | inr stops ↦ given (picture_stopped unit stops.0 stops.1)
])

picture_some : (unit : List ℕ) → (OfPicture unit)
picture_some unit = and_then (allowed_decided unit) (λ a. elim a as (λ _. (OfPicture unit)) [
  | inl allowed ↦ picture_allowed unit allowed
  | inr none ↦ given (Refused, λ allowed. absurd (none allowed))
])

-- ---- a unit

abbrev named_by : Header → Sps → Pps → Named
named_by header sps pps = record { header = header; sps = sps; pps = pps }

-- whether the unit has a header by the sets that it names
named_found : (sets : Sets) (unit : List ℕ) → IsAllowed unit → (o : Option Named) → HasHeaderIn sets (head_of unit) (rbsp unit) o → Decided ((named : Named) × IsNamed sets unit named)
named_found sets unit allowed None none = inr (λ found. has_header sets unit (rbsp unit) None allowed refl none found.0 found.1)
named_found sets unit allowed (Some named) is = inl (named, has_header sets unit (rbsp unit) (Some named) allowed refl is)

module _ (sets : Sets) (head : UnitHead) (bytes : List ℕ) where
  abbrev Found : Type 0
  Found = (o : Option Named) × HasHeaderIn sets head bytes o

  by_sets : (id : ℕ) (pps : Pps) (sps : Sps) → IsSetNumber (bits_of bytes) (Some id) → picture_set sets id ≡ Some pps → sequence_set sets pps.seq_parameter_set_id ≡ Some sps → Found
  by_sets id pps sps number found found_too = elim (read_by (slice_header head (header_info sps pps)) (bits_of bytes)) [
    | inl taken ↦ (Some (named_by taken.0 sps pps), header_found sets head bytes id pps sps taken.0 taken.1.0 number found found_too taken.1.1)
    | inr stops ↦ (None, no_header sets head bytes id pps sps number found found_too (λ header rest takes. takes_or_stops _ (bits_of bytes) rest header stops.0 takes stops.1))
  ]

  by_picture_set : (id : ℕ) (pps : Pps) → IsSetNumber (bits_of bytes) (Some id) → picture_set sets id ≡ Some pps → (o : Option Sps) → sequence_set sets pps.seq_parameter_set_id ≡ o → Found
  by_picture_set id pps number found None none = (None, no_sequence_set sets head bytes id pps number found none)
  by_picture_set id pps number found (Some sps) is = by_sets id pps sps number found is

  by_number : (id : ℕ) → IsSetNumber (bits_of bytes) (Some id) → (o : Option Pps) → picture_set sets id ≡ o → Found
  by_number id number None none = (None, no_picture_set sets head bytes id number none)
  by_number id number (Some pps) is = by_picture_set id pps number is (sequence_set sets pps.seq_parameter_set_id) refl

  header_is : Found
  header_is = elim (read_by set_number (bits_of bytes)) [
    | inl taken ↦ by_number taken.0 (taken.1.0, taken.1.1) (picture_set sets taken.0) refl
    | inr stops ↦ (None, no_number sets head bytes (λ id rest takes. takes_or_stops set_number (bits_of bytes) rest id stops.0 takes stops.1))
  ]

named_decided : (sets : Sets) (unit : List ℕ) → Decided ((named : Named) × IsNamed sets unit named)
named_decided sets unit = elim (allowed_decided unit) [
  | inl allowed ↦ (let header = header_is sets (head_of unit) (rbsp unit) in named_found sets unit allowed header.0 header.1)
  | inr forbidden ↦ inr (λ found. forbidden found.1.allowed)
]

slice_some : (sets : Sets) (unit : List ℕ) → ((content : Content) × IsSlice sets unit content)
slice_some sets unit = and_then (named_decided sets unit) (λ h. given (elim h as (λ _. (content : Content) × IsSlice sets unit content) [
  | inl one ↦ (Slice (Some one.0), one.1)
  | inr none ↦ (Slice None, λ named is. none (named, is))
]))

some_where : (b : Bool) (P Q : Content → Type 0) → ((x : Content) × P x) → ((x : Content) × Q x) → ((x : Content) × WhereElse b (P x) (Q x))
some_where true P Q p q = p
some_where false P Q p q = q

pub tells_some : (sets : Sets) (unit : List ℕ) → ((content : Content) × Tells sets unit content)
tells_some sets unit =
    let IsOther : Content → Type 0 = λ x. x ≡ Other in
    let IsNone : Content → Type 0 = λ x. x ≡ Refused in
    let Picture : Content → Type 0 = λ x. WhereElse (type_of unit == 8) (IsPictureSet unit x) (IsOther x) in
    let Set : Content → Type 0 = λ x. WhereElse (type_of unit == 7) (IsSequenceSet unit x) (Picture x) in
    let Rest : Content → Type 0 = λ x. WhereElse (has_first_bit unit || is_partition unit) (IsNone x) (Set x) in
    some_where (is_slice unit) (IsSlice sets unit) Rest (slice_some sets unit)
    (some_where (has_first_bit unit || is_partition unit) IsNone Set (given (Refused, refl))
    (some_where (type_of unit == 7) (IsSequenceSet unit) Picture (sequence_some unit)
    (some_where (type_of unit == 8) (IsPictureSet unit) IsOther (picture_some unit) (given (Other, refl)))))
