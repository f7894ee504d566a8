-- What a unit tells: the header of a slice by the sets that it names, and parameter sets.
use Rattle.std.proofs.Common.{◌≡◌, ◌≢◌, ℕ, ◌-◌, ◌<◌, List, [], ◌∷◌, Bool, true, false, ◌==◌, ◌||◌, ◌⊎◌, inl, inr, length, take, drop, Option, None, Some, Result, Ok, Err, refl, sym, ap, subst, ◌∙◌, arith}
use Rattle.std.proofs.lemmas.List.{length-drop, take_all}
use Rattle.bit_io.specs.Bits.{bits_of}
use Rattle.bit_io.specs.Codewords as codewords
use Rattle.bit_io.specs.Codewords.{IsUe}
use Rattle.bit_io.specs.Payload.{IsFirstForbidden, is_forbidden, payload}
use Rattle.bit_io.specs.Reads.{Reads}
use Rattle.cb_types.specs.declared.header.Header.{Header}
use Rattle.cb_types.specs.declared.header.UnitHead.{UnitHead}
use Rattle.cb_types.specs.declared.picture_info.PictureInfo.{PictureInfo}
use Rattle.element_tables.specs.declared.elements.Stop.{Stop}
use Rattle.element_tables.specs.declared.elements.Stop.TheVariants.{Malformed}
use Rattle.element_tables.specs.Syntax.{Gives, Made, Rule, Takes, any, ue}
use Rattle.element_tables.proofs.OneElement.{ue_given}
use Rattle.element_tables.proofs.Tables.{gives_made, gives_stop, gives_then, made_is, takes_parts, takes_then}
use Rattle.element_tables.proofs.Unique.{takes_or_stops, takes_same}
use Rattle.marking.specs.HeaderInfo.{header_info}
use Rattle.param_sets.specs.Pps as picture
use Rattle.param_sets.specs.Sps as sequence
use Rattle.param_sets.specs.declared.fault.SetFault.{SetFault}
use Rattle.param_sets.specs.declared.fault.SetFault.TheVariants.{BadPps, BadSps, NotBaseline, TooLarge}
use Rattle.param_sets.specs.declared.pps.Pps.{Pps}
use Rattle.param_sets.specs.declared.sps.Sps.{Sps}
use Rattle.slice_header.specs.Headers.{BeginsNoHeader}
use Rattle.slice_header.specs.Spelling.{numbers, slice_header}
use Rattle.slice_header.specs.declared.parts.Numbers.{Numbers}
use Rattle.access_units.specs.Contents.{HasHeader, IsAllowed, IsPictureSet, IsSequenceSet, Tells, WhereElse, head_of, is_slice, rbsp, type_of}
use Rattle.access_units.specs.Readable.{HasHeaderIn, IsNamedIn, IsSetNumber, set_number}
use Rattle.access_units.specs.Sets.{Sets, picture_set, sequence_set}
use Rattle.access_units.specs.declared.content.Content.{Content}
use Rattle.access_units.specs.declared.content.Content.TheVariants.{PictureSet, Refused, SequenceSet, Slice, TooLarge as LargeContent}
use Rattle.access_units.specs.declared.content.Named.{Named}

-- The payload of a unit that isn't empty isn't empty: the first byte is no emulation prevention byte.
pub some_payload : (unit : List ℕ) → 0 < length unit → 0 < length (payload unit)
some_payload [] some = absurd (omega arith)
some_payload (byte ∷ bytes) some = omega arith

-- ---- the number of the picture set

takes_made : {A : Type 0} (a : A) (whole : List Bool) → Takes (Made a) whole a whole
takes_made a whole = record { front = []; spelled = (refl, refl); parts = refl }

ue_any : (rule : Rule ℕ) (whole : List Bool) (v : ℕ) (rest : List Bool) → Takes (ue rule) whole v rest → Takes (ue any) whole v rest
unfolding ue
ue_any rule whole v rest h = let s = h.spelled in record { front = h.front; spelled = (s.0, s.1, s.2, refl, s.4, s.5); parts = h.parts }

numbers_name : (head : UnitHead) (info : PictureInfo) (whole : List Bool) (n : Numbers) (rest : List Bool) → Takes (numbers head info) whole n rest → (after : List Bool) × Takes set_number whole n.pps after
unfolding numbers set_number
numbers_name head info whole n rest h =
    let first_mb = takes_parts _ h in
    let slice_type = takes_parts _ first_mb.3 in
    let id = takes_parts _ slice_type.3 in
    let frame_num = takes_parts _ id.3 in
    let idr_pic_id = takes_parts _ frame_num.3 in
    let same : id.0 ≡ n.pps = ap (λ (m : Numbers). m.pps) (made_is idr_pic_id.3) in
    let here : Takes set_number whole id.0 id.1 =
    takes_then _ first_mb.2 (takes_then _ (ue_any _ _ _ _ slice_type.2) (takes_then _ (ue_any _ _ _ _ id.2) (takes_made _ _))) in
    (id.1, subst (λ (k : ℕ). Takes set_number whole k id.1) same here)

pub header_names : (head : UnitHead) (info : PictureInfo) (whole : List Bool) (header : Header) (rest : List Bool) → Takes (slice_header head info) whole header rest → (after : List Bool) × Takes set_number whole header.pps after
unfolding slice_header
header_names head info whole header rest h =
    let a = takes_parts _ h in
    let b = takes_parts _ a.3 in
    let c = takes_parts _ b.3 in
    let d = takes_parts _ c.3 in
    let e = takes_parts _ d.3 in
    let f = takes_parts _ e.3 in
    let same : a.0.pps ≡ header.pps = ap (λ (x : Header). x.pps) (made_is f.3) in
    let named = numbers_name head info whole a.0 a.1 a.2 in
    (named.0, subst (λ (k : ℕ). Takes set_number whole k named.0) same named.1)

-- ---- look-ups

some_is : {A : Type 0} (o : Option A) (a b : A) → o ≡ Some a → o ≡ Some b → a ≡ b
some_is o a b e f = cc

none_is : {A : Type 0} (o : Option A) (a : A) → o ≡ None → o ≡ Some a → ⊥
none_is o a e f = cc

abbrev Number : List ℕ → ℕ → Type 0
Number rbsp id = IsSetNumber (bits_of rbsp) (Some id)

number_is : (head : UnitHead) (info : PictureInfo) (rbsp : List ℕ) (header : Header) (rest : List Bool) (id : ℕ) → Number rbsp id
    → Takes (slice_header head info) (bits_of rbsp) header rest → header.pps ≡ id
number_is head info rbsp header rest id number taken =
    let named = header_names head info (bits_of rbsp) header rest taken in
    (takes_same set_number (bits_of rbsp) named.0 number.0 header.pps id named.1 number.1).0

picture_is : (sets : Sets) (head : UnitHead) (rbsp : List ℕ) (id : ℕ) (named : Named) → Number rbsp id → IsNamedIn sets head rbsp named → picture_set sets id ≡ Some named.pps
picture_is sets head rbsp id named number h =
    let same = number_is head (header_info named.sps named.pps) rbsp named.header h.rest id number h.elements in
    subst (λ (k : ℕ). picture_set sets k ≡ Some named.pps) same h.pps

sequence_is : (sets : Sets) (head : UnitHead) (rbsp : List ℕ) (id : ℕ) (pps : Pps) (named : Named) → Number rbsp id → picture_set sets id ≡ Some pps → IsNamedIn sets head rbsp named
    → (named.pps ≡ pps) × (sequence_set sets pps.seq_parameter_set_id ≡ Some named.sps)
sequence_is sets head rbsp id pps named number found h =
    let same = some_is (picture_set sets id) named.pps pps (picture_is sets head rbsp id named number h) found in
    (same, subst (λ (p : Pps). sequence_set sets p.seq_parameter_set_id ≡ Some named.sps) same h.sps)

-- ---- where there is no header

pub no_number : (sets : Sets) (head : UnitHead) (rbsp : List ℕ) → IsSetNumber (bits_of rbsp) None → HasHeaderIn sets head rbsp None
no_number sets head rbsp none = λ named h.
    let number = header_names head (header_info named.sps named.pps) (bits_of rbsp) named.header h.rest h.elements in
    none named.header.pps number.0 number.1

pub no_picture_set : (sets : Sets) (head : UnitHead) (rbsp : List ℕ) (id : ℕ) → Number rbsp id → picture_set sets id ≡ None → HasHeaderIn sets head rbsp None
no_picture_set sets head rbsp id number none = λ named h. none_is (picture_set sets id) named.pps none (picture_is sets head rbsp id named number h)

pub no_sequence_set : (sets : Sets) (head : UnitHead) (rbsp : List ℕ) (id : ℕ) (pps : Pps) → Number rbsp id → picture_set sets id ≡ Some pps
    → sequence_set sets pps.seq_parameter_set_id ≡ None → HasHeaderIn sets head rbsp None
no_sequence_set sets head rbsp id pps number found none = λ named h.
    none_is (sequence_set sets pps.seq_parameter_set_id) named.sps none (sequence_is sets head rbsp id pps named number found h).1

pub no_header : (sets : Sets) (head : UnitHead) (rbsp : List ℕ) (id : ℕ) (pps : Pps) (sps : Sps) → Number rbsp id → picture_set sets id ≡ Some pps
    → sequence_set sets pps.seq_parameter_set_id ≡ Some sps → BeginsNoHeader head (header_info sps pps) (bits_of rbsp) → HasHeaderIn sets head rbsp None
no_header sets head rbsp id pps sps number found found_too none = λ named h.
    let same = sequence_is sets head rbsp id pps named number found h in
    let same_too = some_is (sequence_set sets pps.seq_parameter_set_id) named.sps sps same.1 found_too in
    let taken = subst (λ (p : Pps). Takes (slice_header head (header_info named.sps p)) (bits_of rbsp) named.header h.rest) same.0 h.elements in
    none named.header h.rest (subst (λ (s : Sps). Takes (slice_header head (header_info s pps)) (bits_of rbsp) named.header h.rest) same_too taken)

-- ---- where there is one

abbrev named_by : Header → Sps → Pps → Named
named_by header sps pps = record { header = header; sps = sps; pps = pps }

pub header_found : (sets : Sets) (head : UnitHead) (rbsp : List ℕ) (id : ℕ) (pps : Pps) (sps : Sps) (header : Header) (rest : List Bool) → Number rbsp id → picture_set sets id ≡ Some pps
    → sequence_set sets pps.seq_parameter_set_id ≡ Some sps → Takes (slice_header head (header_info sps pps)) (bits_of rbsp) header rest → IsNamedIn sets head rbsp (named_by header sps pps)
header_found sets head rbsp id pps sps header rest number found found_too taken = record {
  pps = subst (λ (k : ℕ). picture_set sets k ≡ Some pps) (sym (number_is head (header_info sps pps) rbsp header rest id number taken)) found;
  sps = found_too;
  rest = rest;
  elements = taken;
}

-- ---- the number, read

given_none : (bits new : List Bool) (stop : Stop) → Gives set_number bits (Err stop) new → IsSetNumber bits None
given_none bits new stop h = λ id rest taken. takes_or_stops set_number bits rest id stop taken h.answer

pub first_none : (bits new : List Bool) → Reads IsUe codewords.ue bits None new → IsSetNumber bits None
unfolding set_number
first_none bits new first = given_none bits new Malformed (gives_stop _ (ue_given bits new None first))

pub second_none : (bits mid new : List Bool) (a : ℕ) → Reads IsUe codewords.ue bits (Some a) mid → Reads IsUe codewords.ue mid None new → IsSetNumber bits None
unfolding set_number
second_none bits mid new a first second =
    given_none bits new Malformed (gives_then _ (ue_given bits mid (Some a) first) (gives_stop _ (ue_given mid new None second)))

pub third_read : (bits mid end new : List Bool) (a b : ℕ) (id : Option ℕ) → Reads IsUe codewords.ue bits (Some a) mid → Reads IsUe codewords.ue mid (Some b) end → Reads IsUe codewords.ue end id new → IsSetNumber bits id
unfolding set_number
third_read bits mid end new a b None first second third =
    given_none bits new Malformed (gives_then _ (ue_given bits mid (Some a) first) (gives_then _ (ue_given mid end (Some b) second) (gives_stop _ (ue_given end new None third))))
third_read bits mid end new a b (Some id) first second third =
    let whole : Gives set_number bits (Ok id) new = gives_then _ (ue_given bits mid (Some a) first) (gives_then _ (ue_given mid end (Some b) second) (gives_then _ (ue_given end new (Some id) third) (gives_made _ _))) in
    (new, whole.answer)

-- ---- from the payload to the unit

not_both : (b : Bool) → b ≡ true → b ≡ false → ⊥
not_both b holds fails = cc

pub not_allowed : (unit : List ℕ) (at : ℕ) → IsFirstForbidden unit at → IsAllowed unit → ⊥
not_allowed unit at first allowed = not_both (is_forbidden unit at) first.forbidden (allowed at first.within)

pub has_header : (sets : Sets) (unit bytes : List ℕ) (found : Option Named) → IsAllowed unit → bytes ≡ rbsp unit → HasHeaderIn sets (head_of unit) bytes found → HasHeader sets unit found
has_header sets unit bytes (Some named) allowed same h = record {
  allowed = allowed;
  pps = h.pps;
  sps = h.sps;
  rest = h.rest;
  elements = subst (λ (xs : List ℕ). Takes (slice_header (head_of unit) (header_info named.sps named.pps)) (bits_of xs) named.header h.rest) same h.elements;
}
has_header sets unit bytes None allowed same none = λ named h. none named (record {
  pps = h.pps;
  sps = h.sps;
  rest = h.rest;
  elements = subst (λ (xs : List ℕ). Takes (slice_header (head_of unit) (header_info named.sps named.pps)) (bits_of xs) named.header h.rest) (sym same) h.elements;
})

-- ---- what a unit tells

where_holds : (condition : Bool) (P Q : Type 0) → condition ≡ true → P → WhereElse condition P Q
where_holds true P Q e p = p
where_holds false P Q e p = absurd cc

slice_types : (t : ℕ) → (t ≡ 1) ⊎ (t ≡ 5) → ((t == 1) || (t == 5)) ≡ true
slice_types t (inl e) = subst (λ (k : ℕ). ((k == 1) || (k == 5)) ≡ true) (sym e) refl
slice_types t (inr e) = subst (λ (k : ℕ). ((k == 1) || (k == 5)) ≡ true) (sym e) refl

pub tells_slice : (sets : Sets) (unit : List ℕ) (named : Option Named) → (type_of unit ≡ 1) ⊎ (type_of unit ≡ 5) → HasHeader sets unit named → Tells sets unit (Slice named)
tells_slice sets unit named is h = where_holds (is_slice unit) (HasHeader sets unit named) _ (slice_types (type_of unit) is) h

-- ---- parameter sets

-- The payload behind its first byte, as a part of it.
pub behind_first : (unit bytes : List ℕ) → bytes ≡ payload unit → take (length bytes - 1) (drop 1 bytes) ≡ rbsp unit
behind_first unit bytes same = take_all (length bytes - 1) (drop 1 bytes) (omega (arith, length-drop 1 bytes)) ∙ ap (λ (xs : List ℕ). drop 1 xs) same

pub sequence_read : (unit bytes : List ℕ) (sps : Sps) → IsAllowed unit → bytes ≡ rbsp unit → sequence.IsSpsOf bytes sps → IsSequenceSet unit (SequenceSet sps)
sequence_read unit bytes sps allowed same found = (allowed, subst (λ (xs : List ℕ). sequence.IsSpsOf xs sps) same found)

pub sequence_unread : (unit bytes : List ℕ) (result : Result Sps SetFault) (fault : SetFault) (content : Content) → IsAllowed unit → bytes ≡ rbsp unit → result ≡ Err fault
    → (result ≡ Err TooLarge → sequence.IsTooLarge bytes) → (result ≡ Err BadSps → sequence.IsBadSps bytes) → (result ≡ Err NotBaseline → sequence.LeavesBaseline bytes) → (result ≡ Err BadPps → ⊥)
    → (fault ≡ TooLarge → content ≡ LargeContent) → (fault ≢ TooLarge → content ≡ Refused) → IsSequenceSet unit content
sequence_unread unit bytes result TooLarge content allowed same is large bad leaves none told others =
    subst (λ (x : Content). IsSequenceSet unit x) (sym (told refl)) (allowed, subst (λ (xs : List ℕ). sequence.IsTooLarge xs) same (large is))
sequence_unread unit bytes result BadSps content allowed same is large bad leaves none told others =
    let other : BadSps ≢ TooLarge = λ e. cc in
    subst (λ (x : Content). IsSequenceSet unit x) (sym (others other)) (λ (a : IsAllowed unit). inl (subst (λ (xs : List ℕ). sequence.IsBadSps xs) same (bad is)))
sequence_unread unit bytes result NotBaseline content allowed same is large bad leaves none told others =
    let other : NotBaseline ≢ TooLarge = λ e. cc in
    subst (λ (x : Content). IsSequenceSet unit x) (sym (others other)) (λ (a : IsAllowed unit). inr (subst (λ (xs : List ℕ). sequence.LeavesBaseline xs) same (leaves is)))
sequence_unread unit bytes result BadPps content allowed same is large bad leaves none told others = absurd (none is)

pub picture_read : (unit bytes : List ℕ) (pps : Pps) → IsAllowed unit → bytes ≡ rbsp unit → picture.IsPpsOf bytes pps → IsPictureSet unit (PictureSet pps)
picture_read unit bytes pps allowed same found = (allowed, subst (λ (xs : List ℕ). picture.IsPpsOf xs pps) same found)

pub picture_unread : (unit bytes : List ℕ) (result : Result Pps SetFault) (fault : SetFault) → bytes ≡ rbsp unit → result ≡ Err fault
    → (result ≡ Err BadPps → picture.IsBadPps bytes) → (result ≡ Err NotBaseline → picture.LeavesBaseline bytes) → (result ≡ Err BadSps → ⊥) → (result ≡ Err TooLarge → ⊥) → IsPictureSet unit Refused
picture_unread unit bytes result BadPps same is bad leaves none large = λ allowed. inl (subst (λ (xs : List ℕ). picture.IsBadPps xs) same (bad is))
picture_unread unit bytes result NotBaseline same is bad leaves none large = λ allowed. inr (subst (λ (xs : List ℕ). picture.LeavesBaseline xs) same (leaves is))
picture_unread unit bytes result BadSps same is bad leaves none large = absurd (none is)
picture_unread unit bytes result TooLarge same is bad leaves none large = absurd (large is)
