-- A unit tells one thing at most where the same sets are known, and the sets that it names can be read.
use Rattle.std.proofs.Common.{◌≡◌, ℕ, ◌==◌, Bool, true, false, ◌||◌, cond, List, [], ◌∷◌, Option, Some, None, Result, Ok, Err, inl, inr, ◌⊎◌, refl, sym, ap, subst, ◌∙◌}
use Rattle.std.specs.Prelude.{IfSome}
use Rattle.std.specs.List.{AllByRecursion, find}
use Rattle.bit_io.specs.Bits.{bits_of}
use Rattle.element_tables.specs.Syntax.{Takes}
use Rattle.element_tables.proofs.Unique.{takes_same}
use Rattle.marking.specs.HeaderInfo.{header_info}
use Rattle.param_sets.specs.Accepted.{IsAcceptedPps, IsAcceptedSps}
use Rattle.param_sets.specs.Pps as picture
use Rattle.param_sets.specs.Sps as sequence
use Rattle.param_sets.specs.declared.fault.SetFault.{SetFault}
use Rattle.param_sets.specs.declared.fault.SetFault.TheVariants as fault
use Rattle.param_sets.specs.declared.pps.Pps.{Pps}
use Rattle.param_sets.specs.declared.sps.Sps.{Sps}
use Rattle.param_sets.proofs.PpsAnswers as picture_answers
use Rattle.param_sets.proofs.PpsAnswers.{PpsAnswer}
use Rattle.param_sets.proofs.PpsRanges.{pps_accepted}
use Rattle.param_sets.proofs.SpsAnswers as sequence_answers
use Rattle.param_sets.proofs.SpsAnswers.{SpsAnswer}
use Rattle.param_sets.proofs.SpsRanges.{sps_accepted}
use Rattle.slice_header.specs.Spelling.{slice_header}
use Rattle.access_units.specs.Contents.{AreTold, HasHeader, IsNamed, IsPictureSet, IsSequenceSet, IsSlice, Tells, Told, WhereElse, has_first_bit, head_of, is_partition, is_slice, rbsp, sets_behind, type_of, with_content}
use Rattle.access_units.specs.Sets.{Sets, picture_set, sequence_set}
use Rattle.access_units.specs.declared.content.Content.{Content}
use Rattle.access_units.specs.declared.content.Content.TheVariants.{Other, PictureSet, Refused, SequenceSet, Slice, TooLarge}
use Rattle.access_units.specs.declared.content.Named.{Named}
use Rattle.access_units.proofs.ContentLemmas.{header_names}

some_one : {A : Type 0} (o : Option A) (a b : A) → o ≡ Some a → o ≡ Some b → a ≡ b
some_one o a b is also = cc

-- ---- slices

named_of : (a b : Named) → a.header ≡ b.header → a.sps ≡ b.sps → a.pps ≡ b.pps → a ≡ b
named_of a b header sps pps = λ i. record { header = header i; sps = sps i; pps = pps i }

named_one : (sets : Sets) (unit : List ℕ) (a b : Named) → IsNamed sets unit a → IsNamed sets unit b → a ≡ b
named_one sets unit a b is also =
    let head = head_of unit in
    let bits : List Bool = bits_of (rbsp unit) in
    let n = header_names head (header_info a.sps a.pps) bits a.header is.rest is.elements in
    let m = header_names head (header_info b.sps b.pps) bits b.header also.rest also.elements in
    let number : a.header.pps ≡ b.header.pps = (takes_same _ bits n.0 m.0 a.header.pps b.header.pps n.1 m.1).0 in
    let pps : a.pps ≡ b.pps = some_one (picture_set sets b.header.pps) a.pps b.pps (subst (λ (k : ℕ). picture_set sets k ≡ Some a.pps) number is.pps) also.pps in
    let sps : a.sps ≡ b.sps = some_one (sequence_set sets b.pps.seq_parameter_set_id) a.sps b.sps (subst (λ (p : Pps). sequence_set sets p.seq_parameter_set_id ≡ Some a.sps) pps is.sps) also.sps in
    let by_pps = subst (λ (p : Pps). Takes (slice_header head (header_info a.sps p)) bits a.header is.rest) pps is.elements in
    let by_both = subst (λ (s : Sps). Takes (slice_header head (header_info s b.pps)) bits a.header is.rest) sps by_pps in
    let header : a.header ≡ b.header = (takes_same (slice_header head (header_info b.sps b.pps)) bits is.rest also.rest a.header b.header by_both also.elements).0 in
    named_of a b header sps pps

header_one : (sets : Sets) (unit : List ℕ) (a b : Option Named) → HasHeader sets unit a → HasHeader sets unit b → a ≡ b
header_one sets unit None None is also = refl
header_one sets unit None (Some b) is also = absurd (is b also)
header_one sets unit (Some a) None is also = absurd (also a is)
header_one sets unit (Some a) (Some b) is also = ap Some (named_one sets unit a b is also)

slice_one : (sets : Sets) (unit : List ℕ) (a b : Content) → IsSlice sets unit a → IsSlice sets unit b → a ≡ b
slice_one sets unit (Slice a) (Slice b) is also = ap Slice (header_one sets unit a b is also)
slice_one sets unit (Slice a) b is also = absurd also
slice_one sets unit a b is also = absurd is

-- ---- sequence sets

sequence_ok : Sps → Result Sps SetFault
sequence_ok s = Ok s

sequence_err : SetFault → Result Sps SetFault
sequence_err f = Err f

same_sequence : (s t : Sps) → sequence_ok s ≡ sequence_ok t → s ≡ t
unfolding sequence_ok
same_sequence s t e = cc

set_and_fault : (s : Sps) (f : SetFault) → sequence_ok s ≡ sequence_err f → ⊥
unfolding sequence_ok sequence_err
set_and_fault s f e = cc

large_and_bad : sequence_err fault.TooLarge ≡ sequence_err fault.BadSps → ⊥
unfolding sequence_err
large_and_bad e = cc

large_and_other : sequence_err fault.TooLarge ≡ sequence_err fault.NotBaseline → ⊥
unfolding sequence_err
large_and_other e = cc

set_of : (bytes : List ℕ) (s : Sps) → sequence.IsSpsOf bytes s → SpsAnswer bytes (sequence_ok s)
unfolding sequence_ok
set_of bytes s is = sequence_answers.set_answer bytes s is.0 is.1

large_of : (bytes : List ℕ) → sequence.IsTooLarge bytes → SpsAnswer bytes (sequence_err fault.TooLarge)
unfolding sequence_err
large_of bytes is = sequence_answers.large_answer bytes is.0 is.1 is.2

-- a set that is taken isn't refused
taken_or_refused : (bytes : List ℕ) (s : Sps) → sequence.IsSpsOf bytes s → sequence.IsBadSps bytes ⊎ sequence.LeavesBaseline bytes → ⊥
unfolding sequence_err
taken_or_refused bytes s is (inl bad) = set_and_fault s fault.BadSps ((set_of bytes s is).bad.1 bad)
taken_or_refused bytes s is (inr leaves) = set_and_fault s fault.NotBaseline ((set_of bytes s is).not_baseline.1 leaves)

taken_or_large : (bytes : List ℕ) (s : Sps) → sequence.IsSpsOf bytes s → sequence.IsTooLarge bytes → ⊥
unfolding sequence_err
taken_or_large bytes s is large = set_and_fault s fault.TooLarge ((set_of bytes s is).too_large.1 large)

large_or_refused : (bytes : List ℕ) → sequence.IsTooLarge bytes → sequence.IsBadSps bytes ⊎ sequence.LeavesBaseline bytes → ⊥
unfolding sequence_err
large_or_refused bytes is (inl bad) = large_and_bad ((large_of bytes is).bad.1 bad)
large_or_refused bytes is (inr leaves) = large_and_other ((large_of bytes is).not_baseline.1 leaves)

one_sequence : (bytes : List ℕ) (s t : Sps) → sequence.IsSpsOf bytes s → sequence.IsSpsOf bytes t → s ≡ t
unfolding sequence_ok
one_sequence bytes s t is also = same_sequence s t ((set_of bytes s is).only t also)

sequence_one : (unit : List ℕ) (a b : Content) → IsSequenceSet unit a → IsSequenceSet unit b → a ≡ b
sequence_one unit (SequenceSet s) (SequenceSet t) is also = ap SequenceSet (one_sequence (rbsp unit) s t is.1 also.1)
sequence_one unit (SequenceSet s) TooLarge is also = absurd (taken_or_large (rbsp unit) s is.1 also.1)
sequence_one unit (SequenceSet s) Refused is also = absurd (taken_or_refused (rbsp unit) s is.1 (also is.0))
sequence_one unit TooLarge (SequenceSet t) is also = absurd (taken_or_large (rbsp unit) t also.1 is.1)
sequence_one unit TooLarge TooLarge is also = refl
sequence_one unit TooLarge Refused is also = absurd (large_or_refused (rbsp unit) is.1 (also is.0))
sequence_one unit Refused (SequenceSet t) is also = absurd (taken_or_refused (rbsp unit) t also.1 (is also.0))
sequence_one unit Refused TooLarge is also = absurd (large_or_refused (rbsp unit) also.1 (is also.0))
sequence_one unit Refused Refused is also = refl
sequence_one unit (SequenceSet s) b is also = absurd also
sequence_one unit TooLarge b is also = absurd also
sequence_one unit Refused b is also = absurd also
sequence_one unit a b is also = absurd is

-- ---- picture sets

picture_ok : Pps → Result Pps SetFault
picture_ok p = Ok p

picture_err : SetFault → Result Pps SetFault
picture_err f = Err f

same_picture : (p q : Pps) → picture_ok p ≡ picture_ok q → p ≡ q
unfolding picture_ok
same_picture p q e = cc

picture_and_fault : (p : Pps) (f : SetFault) → picture_ok p ≡ picture_err f → ⊥
unfolding picture_ok picture_err
picture_and_fault p f e = cc

picture_of : (bytes : List ℕ) (p : Pps) → picture.IsPpsOf bytes p → PpsAnswer bytes (picture_ok p)
unfolding picture_ok
picture_of bytes p is = picture_answers.set_answer bytes p is

picture_or_refused : (bytes : List ℕ) (p : Pps) → picture.IsPpsOf bytes p → picture.IsBadPps bytes ⊎ picture.LeavesBaseline bytes → ⊥
unfolding picture_err
picture_or_refused bytes p is (inl bad) = picture_and_fault p fault.BadPps ((picture_of bytes p is).bad.1 bad)
picture_or_refused bytes p is (inr leaves) = picture_and_fault p fault.NotBaseline ((picture_of bytes p is).not_baseline.1 leaves)

one_picture : (bytes : List ℕ) (p q : Pps) → picture.IsPpsOf bytes p → picture.IsPpsOf bytes q → p ≡ q
unfolding picture_ok
one_picture bytes p q is also = same_picture p q ((picture_of bytes p is).only q also)

picture_one : (unit : List ℕ) (a b : Content) → IsPictureSet unit a → IsPictureSet unit b → a ≡ b
picture_one unit (PictureSet p) (PictureSet q) is also = ap PictureSet (one_picture (rbsp unit) p q is.1 also.1)
picture_one unit (PictureSet p) Refused is also = absurd (picture_or_refused (rbsp unit) p is.1 (also is.0))
picture_one unit Refused (PictureSet q) is also = absurd (picture_or_refused (rbsp unit) q also.1 (is also.0))
picture_one unit Refused Refused is also = refl
picture_one unit (PictureSet p) b is also = absurd also
picture_one unit Refused b is also = absurd also
picture_one unit a b is also = absurd is

-- ---- a unit

one_where : (b : Bool) (P Q : Content → Type 0) → ((x y : Content) → P x → P y → x ≡ y) → ((x y : Content) → Q x → Q y → x ≡ y) → (x y : Content) → WhereElse b (P x) (Q x) → WhereElse b (P y) (Q y) → x ≡ y
one_where true P Q p q x y is also = p x y is also
one_where false P Q p q x y is also = q x y is also

pub tells_one : (sets : Sets) (unit : List ℕ) (a b : Content) → Tells sets unit a → Tells sets unit b → a ≡ b
tells_one sets unit =
    let IsOther : Content → Type 0 = λ x. x ≡ Other in
    let IsRefused : Content → Type 0 = λ x. x ≡ Refused in
    let Picture : Content → Type 0 = λ x. WhereElse (type_of unit == 8) (IsPictureSet unit x) (IsOther x) in
    let Set : Content → Type 0 = λ x. WhereElse (type_of unit == 7) (IsSequenceSet unit x) (Picture x) in
    let Rest : Content → Type 0 = λ x. WhereElse (has_first_bit unit || is_partition unit) (IsRefused x) (Set x) in
    one_where (is_slice unit) (IsSlice sets unit) Rest (slice_one sets unit)
    (one_where (has_first_bit unit || is_partition unit) IsRefused Set (λ x y is also. is ∙ sym also)
    (one_where (type_of unit == 7) (IsSequenceSet unit) Picture (sequence_one unit)
    (one_where (type_of unit == 8) (IsPictureSet unit) IsOther (picture_one unit) (λ x y is also. is ∙ sym also))))

-- ---- the sets of a header

-- The sets that a header names can be read.
pub record IsRead (named : Named) : Type 0 where
  pub sps : IsAcceptedSps named.sps
  pub pps : IsAcceptedPps named.pps

abbrev pub IsReadContent : Content → Type 0
IsReadContent (Slice named) = IfSome named IsRead
IsReadContent content = Unit {0}

record AreRead (sets : Sets) : Type 0 where
  sequence : AllByRecursion IsAcceptedSps sets.sequence
  picture : AllByRecursion IsAcceptedPps sets.picture

some_is : {A : Type 0} (a b : A) → Some a ≡ Some b → a ≡ b
some_is a b e = cc

found_read : {A : Type 0} (P : A → Type 0) (test : A → Bool) (xs : List A) (x : A) → AllByRecursion P xs → find test xs ≡ Some x → P x
found_read P test [] x all is = absurd (cc)
found_read P test (y ∷ ys) x all is =
    let later = found_read P test ys x all.1 in
    elim (test y) as (λ b. cond b (Some y) (find test ys) ≡ Some x → P x) [ true ↦ λ e. subst P (some_is y x e) all.0 | false ↦ λ e. later e ] is

named_read : (sets : Sets) (unit : List ℕ) (named : Option Named) → AreRead sets → HasHeader sets unit named → IfSome named IsRead
named_read sets unit None read has = tt
named_read sets unit (Some named) read has = record {
  sps = found_read IsAcceptedSps (λ sps. sps.seq_parameter_set_id == named.pps.seq_parameter_set_id) sets.sequence named.sps read.sequence has.sps;
  pps = found_read IsAcceptedPps (λ pps. pps.pic_parameter_set_id == named.header.pps) sets.picture named.pps read.picture has.pps;
}

slice_by : (named : Option Named) (a b c d : Bool) (H : Type 0) → WhereElse a H (WhereElse b (Slice named ≡ Refused) (WhereElse c ⊥ (WhereElse d ⊥ (Slice named ≡ Other)))) → H
slice_by named true b c d H told = told
slice_by named false true c d H told = absurd (cc)
slice_by named false false true d H told = absurd told
slice_by named false false false true H told = absurd told
slice_by named false false false false H told = absurd (cc)

sequence_by : (s : Sps) (a b c d : Bool) (H : Type 0) → WhereElse a ⊥ (WhereElse b (SequenceSet s ≡ Refused) (WhereElse c H (WhereElse d ⊥ (SequenceSet s ≡ Other)))) → H
sequence_by s true b c d H told = absurd told
sequence_by s false true c d H told = absurd (cc)
sequence_by s false false true d H told = told
sequence_by s false false false true H told = absurd told
sequence_by s false false false false H told = absurd (cc)

picture_by : (p : Pps) (a b c d : Bool) (H : Type 0) → WhereElse a ⊥ (WhereElse b (PictureSet p ≡ Refused) (WhereElse c ⊥ (WhereElse d H (PictureSet p ≡ Other)))) → H
picture_by p true b c d H told = absurd told
picture_by p false true c d H told = absurd (cc)
picture_by p false false true d H told = absurd told
picture_by p false false false true H told = told
picture_by p false false false false H told = absurd (cc)

sets_read : (sets : Sets) (unit : List ℕ) (content : Content) → AreRead sets → Tells sets unit content → IsReadContent content × AreRead (with_content content sets)
sets_read sets unit (Slice named) read told =
    (named_read sets unit named read (slice_by named (is_slice unit) (has_first_bit unit || is_partition unit) (type_of unit == 7) (type_of unit == 8) (HasHeader sets unit named) told), read)
sets_read sets unit (SequenceSet s) read told =
    let is : IsSequenceSet unit (SequenceSet s) = sequence_by s (is_slice unit) (has_first_bit unit || is_partition unit) (type_of unit == 7) (type_of unit == 8) (IsSequenceSet unit (SequenceSet s)) told in
    let spelled = is.1.0 in
    (tt, record { sequence = (sps_accepted (bits_of (rbsp unit)) s spelled.0 spelled.1 spelled.2 is.1.1, read.sequence); picture = read.picture })
sets_read sets unit (PictureSet p) read told =
    let is : IsPictureSet unit (PictureSet p) = picture_by p (is_slice unit) (has_first_bit unit || is_partition unit) (type_of unit == 7) (type_of unit == 8) (IsPictureSet unit (PictureSet p)) told in
    (tt, record { sequence = read.sequence; picture = (pps_accepted (bits_of (rbsp unit)) p is.1.0 is.1.1, read.picture) })
sets_read sets unit Refused read told = (tt, read)
sets_read sets unit TooLarge read told = (tt, read)
sets_read sets unit Other read told = (tt, read)

both_read : (text : List ℕ) (told : List Told) → AreTold text told → AreRead (sets_behind told) × AllByRecursion (λ (unit : Told). IsReadContent unit.content) told
unfolding AreTold sets_behind
both_read text [] each = (record { sequence = tt; picture = tt }, tt)
both_read text (unit ∷ earlier) each =
    let before = both_read text earlier each.0 in
    let here = sets_read (sets_behind earlier) unit.bytes unit.content before.0 each.2 in
    (here.1, (here.0, before.1))

-- The sets that a text's headers name can be read.
pub told_read : (text : List ℕ) (told : List Told) → AreTold text told → AllByRecursion (λ (unit : Told). IsReadContent unit.content) told
told_read text told each = (both_read text told each).1
