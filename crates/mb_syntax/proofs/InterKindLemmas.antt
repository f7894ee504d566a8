-- The kinds of inter macroblocks by mb_type.
use Rattle.std.proofs.Common.{◌≡◌, ℕ, ◌≤◌, Bool, false, IsTrue, List, ◌++◌, refl, sym, arith}
use Rattle.bit_io.specs.Reads.{BeginsNone, IsPrefixFree}
use Rattle.cb_types.specs.declared.macroblock.MbKind.{MbKind}
use Rattle.cb_types.specs.declared.macroblock.MbKind.TheVariants.{Skip, Pcm, Intra4, Intra16, Whole, Wide, Tall, Four, FourFirst}
use Rattle.cb_types.specs.declared.macroblock.Part.{Part}
use Rattle.cb_types.specs.declared.macroblock.Sub.{Sub}
use Rattle.cb_types.specs.declared.macroblock.Vector.{Vector}
use Rattle.mb_syntax.proofs.InterLemmas.{reference_free, vector_free}
use Rattle.mb_syntax.proofs.IntraLemmas.{pattern_free}
use Rattle.mb_syntax.proofs.KindLemmas.{IsPattern, inter_other}
use Rattle.mb_syntax.proofs.Pairs.{Made, both_free, made_free, none_first, none_made, none_second}
use Rattle.mb_syntax.proofs.PartLemmas.{parts_free}
use Rattle.mb_syntax.proofs.Steps.{joined}
use Rattle.mb_syntax.proofs.SubLemmas.{first_subs_free, subs_free}
use Rattle.mb_syntax.specs.KindSteps.{AreSo, first_subs_bits, parts_bits, subs_bits}
use Rattle.mb_syntax.specs.Kinds.{intra16_type}
use Rattle.mb_syntax.specs.Prediction.{IsFirstSub, IsKindOf, IsPart, IsReference, IsSub, IsVector, pattern_bits, prediction_bits, reference_bits, vector_bits}
use Rattle.mb_syntax.specs.declared.slice.Slice.{Slice}

-- ---- P_L0_16x16

abbrev IsOne : Slice → ℕ × Vector → Type 0
IsOne slice p = IsReference slice p.0 × IsVector p.1

abbrev one_bits : Slice → ℕ × Vector → List Bool
one_bits slice p = reference_bits slice p.0 ++ vector_bits p.1

abbrev IsWhole : Slice → (ℕ × Vector) × ℕ → Type 0
IsWhole slice p = IsOne slice p.0 × IsPattern p.1

abbrev whole_bits : Slice → (ℕ × Vector) × ℕ → List Bool
whole_bits slice p = one_bits slice p.0 ++ pattern_bits false p.1

abbrev part_of : ℕ → Vector → Part
part_of reference delta = record { reference = reference; delta = delta }

abbrev make_whole : (ℕ × Vector) × ℕ → MbKind
make_whole p = Whole (part_of p.0.0 p.0.1) p.1

split_whole : (slice : Slice) (place : ℕ) → IsTrue slice.is_p → (kind : MbKind) → IsKindOf slice 0 kind → Made (IsWhole slice) (whole_bits slice) make_whole kind (prediction_bits slice place kind)
unfolding prediction_bits
split_whole slice place in_p Skip h = absurd h.0
split_whole slice place in_p (Pcm samples) h = absurd (inter_other slice.is_p 0 25 in_p (omega arith) (sym h.1))
split_whole slice place in_p (Intra4 modes chroma pattern) h = absurd (inter_other slice.is_p 0 0 in_p (omega arith) (sym h.1))
split_whole slice place in_p (Intra16 mode chroma pattern) h = absurd (inter_other slice.is_p 0 (intra16_type mode pattern) in_p (omega arith) (sym h.1))
split_whole slice place in_p (Whole part pattern) h = record { parts = ((part.reference, part.delta), pattern); are = ((h.0.1.reference, h.0.1.delta), h.0.2); same = refl; spelled = refl }
split_whole slice place in_p (Wide parts pattern) h = absurd (omega (arith, h.1))
split_whole slice place in_p (Tall parts pattern) h = absurd (omega (arith, h.1))
split_whole slice place in_p (Four subs pattern) h = absurd (omega (arith, h.1))
split_whole slice place in_p (FourFirst subs pattern) h = absurd (omega (arith, h.1))

one_free : (slice : Slice) → slice.active ≤ 16 → IsPrefixFree (IsOne slice) (one_bits slice)
one_free slice few = both_free (IsReference slice) (reference_bits slice) (λ r. IsVector) (λ r. vector_bits) (reference_free slice few) (λ r h. vector_free)

pub whole_free : (slice : Slice) (place : ℕ) → IsTrue slice.is_p → slice.active ≤ 16 → IsPrefixFree (IsKindOf slice 0) (prediction_bits slice place)
whole_free slice place in_p few = made_free (IsKindOf slice 0) (prediction_bits slice place) (IsWhole slice) (whole_bits slice) make_whole (split_whole slice place in_p)
    (both_free (IsOne slice) (one_bits slice) (λ p. IsPattern) (λ p. pattern_bits false) (one_free slice few) (λ p h. pattern_free false))

whole_none : (slice : Slice) (place : ℕ) → IsTrue slice.is_p → (old : List Bool) → BeginsNone (IsWhole slice) (whole_bits slice) old → BeginsNone (IsKindOf slice 0) (prediction_bits slice place) old
whole_none slice place in_p old none = none_made (IsKindOf slice 0) (prediction_bits slice place) (IsWhole slice) (whole_bits slice) make_whole (split_whole slice place in_p) old none

pub whole_no_reference : (slice : Slice) (place : ℕ) → IsTrue slice.is_p → (old : List Bool) → BeginsNone (IsReference slice) (reference_bits slice) old → BeginsNone (IsKindOf slice 0) (prediction_bits slice place) old
whole_no_reference slice place in_p old none = whole_none slice place in_p old
    (none_first (IsOne slice) (one_bits slice) (λ p. IsPattern) (λ p. pattern_bits false) old
    (none_first (IsReference slice) (reference_bits slice) (λ r. IsVector) (λ r. vector_bits) old none))

pub whole_no_vector : (slice : Slice) (place : ℕ) → IsTrue slice.is_p → slice.active ≤ 16 → (reference : ℕ) (old mid : List Bool) → IsReference slice reference → old ≡ reference_bits slice reference ++ mid
    → BeginsNone IsVector vector_bits mid → BeginsNone (IsKindOf slice 0) (prediction_bits slice place) old
whole_no_vector slice place in_p few reference old mid is e none = whole_none slice place in_p old
    (none_first (IsOne slice) (one_bits slice) (λ p. IsPattern) (λ p. pattern_bits false) old
    (none_second (IsReference slice) (reference_bits slice) (λ r. IsVector) (λ r. vector_bits) (reference_free slice few) reference old mid is e none))

pub whole_no_pattern : (slice : Slice) (place : ℕ) → IsTrue slice.is_p → slice.active ≤ 16 → (reference : ℕ) (delta : Vector) (old first second : List Bool) → IsReference slice reference → old ≡ reference_bits slice reference ++ first
    → IsVector delta → first ≡ vector_bits delta ++ second → BeginsNone IsPattern (pattern_bits false) second → BeginsNone (IsKindOf slice 0) (prediction_bits slice place) old
whole_no_pattern slice place in_p few reference delta old first second is e is_v f none = whole_none slice place in_p old
    (none_second (IsOne slice) (one_bits slice) (λ p. IsPattern) (λ p. pattern_bits false) (one_free slice few) (reference, delta) old second (is, is_v)
    (joined old first second (reference_bits slice reference) (vector_bits delta) e f) none)

pub whole_read : (slice : Slice) (place : ℕ) → IsTrue slice.is_p → (reference : ℕ) (delta : Vector) (pattern : ℕ) (old first second new : List Bool) → IsReference slice reference → old ≡ reference_bits slice reference ++ first
    → IsVector delta → first ≡ vector_bits delta ++ second → IsPattern pattern → second ≡ pattern_bits false pattern ++ new
    → IsKindOf slice 0 (Whole (part_of reference delta) pattern) × (old ≡ prediction_bits slice place (Whole (part_of reference delta) pattern) ++ new)
unfolding prediction_bits
whole_read slice place in_p reference delta pattern old first second new is e is_v f is_p g = (
  ((in_p, record { reference = is; delta = is_v }, is_p), refl),
  joined old second new (reference_bits slice reference ++ vector_bits delta) (pattern_bits false pattern) (joined old first second (reference_bits slice reference) (vector_bits delta) e f) g,
)

-- ---- P_L0_L0_16x8

abbrev IsWide : Slice → List Part × ℕ → Type 0
IsWide slice p = AreSo (IsPart slice) 2 p.0 × IsPattern p.1

abbrev wide_bits : Slice → List Part × ℕ → List Bool
wide_bits slice p = parts_bits slice p.0 ++ pattern_bits false p.1

abbrev make_wide : List Part × ℕ → MbKind
make_wide p = Wide p.0 p.1

split_wide : (slice : Slice) (place : ℕ) → IsTrue slice.is_p → (kind : MbKind) → IsKindOf slice 1 kind → Made (IsWide slice) (wide_bits slice) make_wide kind (prediction_bits slice place kind)
unfolding prediction_bits
split_wide slice place in_p Skip h = absurd h.0
split_wide slice place in_p (Pcm samples) h = absurd (inter_other slice.is_p 1 25 in_p (omega arith) (sym h.1))
split_wide slice place in_p (Intra4 modes chroma pattern) h = absurd (inter_other slice.is_p 1 0 in_p (omega arith) (sym h.1))
split_wide slice place in_p (Intra16 mode chroma pattern) h = absurd (inter_other slice.is_p 1 (intra16_type mode pattern) in_p (omega arith) (sym h.1))
split_wide slice place in_p (Whole part pattern) h = absurd (omega (arith, h.1))
split_wide slice place in_p (Wide parts pattern) h = record { parts = (parts, pattern); are = ((h.0.1.size, h.0.1.each), h.0.1.of_pattern); same = refl; spelled = refl }
split_wide slice place in_p (Tall parts pattern) h = absurd (omega (arith, h.1))
split_wide slice place in_p (Four subs pattern) h = absurd (omega (arith, h.1))
split_wide slice place in_p (FourFirst subs pattern) h = absurd (omega (arith, h.1))

pub wide_free : (slice : Slice) (place : ℕ) → IsTrue slice.is_p → slice.active ≤ 16 → IsPrefixFree (IsKindOf slice 1) (prediction_bits slice place)
wide_free slice place in_p few = made_free (IsKindOf slice 1) (prediction_bits slice place) (IsWide slice) (wide_bits slice) make_wide (split_wide slice place in_p)
    (both_free (AreSo (IsPart slice) 2) (parts_bits slice) (λ p. IsPattern) (λ p. pattern_bits false) (parts_free slice few) (λ p h. pattern_free false))

pub wide_no_parts : (slice : Slice) (place : ℕ) → IsTrue slice.is_p → (old : List Bool) → BeginsNone (AreSo (IsPart slice) 2) (parts_bits slice) old → BeginsNone (IsKindOf slice 1) (prediction_bits slice place) old
wide_no_parts slice place in_p old none = none_made (IsKindOf slice 1) (prediction_bits slice place) (IsWide slice) (wide_bits slice) make_wide (split_wide slice place in_p) old
    (none_first (AreSo (IsPart slice) 2) (parts_bits slice) (λ p. IsPattern) (λ p. pattern_bits false) old none)

pub wide_no_pattern : (slice : Slice) (place : ℕ) → IsTrue slice.is_p → slice.active ≤ 16 → (parts : List Part) (old mid : List Bool) → AreSo (IsPart slice) 2 parts → old ≡ parts_bits slice parts ++ mid
    → BeginsNone IsPattern (pattern_bits false) mid → BeginsNone (IsKindOf slice 1) (prediction_bits slice place) old
wide_no_pattern slice place in_p few parts old mid is e none = none_made (IsKindOf slice 1) (prediction_bits slice place) (IsWide slice) (wide_bits slice) make_wide (split_wide slice place in_p) old
    (none_second (AreSo (IsPart slice) 2) (parts_bits slice) (λ p. IsPattern) (λ p. pattern_bits false) (parts_free slice few) parts old mid is e none)

pub wide_read : (slice : Slice) (place : ℕ) → IsTrue slice.is_p → (parts : List Part) (pattern : ℕ) (old mid new : List Bool) → AreSo (IsPart slice) 2 parts → old ≡ parts_bits slice parts ++ mid
    → IsPattern pattern → mid ≡ pattern_bits false pattern ++ new → IsKindOf slice 1 (Wide parts pattern) × (old ≡ prediction_bits slice place (Wide parts pattern) ++ new)
unfolding prediction_bits
wide_read slice place in_p parts pattern old mid new is e is_p f =
    (((in_p, record { size = is.0; each = is.1; of_pattern = is_p }), refl), joined old mid new (parts_bits slice parts) (pattern_bits false pattern) e f)

-- ---- P_L0_L0_8x16

abbrev IsTall : Slice → List Part × ℕ → Type 0
IsTall slice p = AreSo (IsPart slice) 2 p.0 × IsPattern p.1

abbrev tall_bits : Slice → List Part × ℕ → List Bool
tall_bits slice p = parts_bits slice p.0 ++ pattern_bits false p.1

abbrev make_tall : List Part × ℕ → MbKind
make_tall p = Tall p.0 p.1

split_tall : (slice : Slice) (place : ℕ) → IsTrue slice.is_p → (kind : MbKind) → IsKindOf slice 2 kind → Made (IsTall slice) (tall_bits slice) make_tall kind (prediction_bits slice place kind)
unfolding prediction_bits
split_tall slice place in_p Skip h = absurd h.0
split_tall slice place in_p (Pcm samples) h = absurd (inter_other slice.is_p 2 25 in_p (omega arith) (sym h.1))
split_tall slice place in_p (Intra4 modes chroma pattern) h = absurd (inter_other slice.is_p 2 0 in_p (omega arith) (sym h.1))
split_tall slice place in_p (Intra16 mode chroma pattern) h = absurd (inter_other slice.is_p 2 (intra16_type mode pattern) in_p (omega arith) (sym h.1))
split_tall slice place in_p (Whole part pattern) h = absurd (omega (arith, h.1))
split_tall slice place in_p (Wide parts pattern) h = absurd (omega (arith, h.1))
split_tall slice place in_p (Tall parts pattern) h = record { parts = (parts, pattern); are = ((h.0.1.size, h.0.1.each), h.0.1.of_pattern); same = refl; spelled = refl }
split_tall slice place in_p (Four subs pattern) h = absurd (omega (arith, h.1))
split_tall slice place in_p (FourFirst subs pattern) h = absurd (omega (arith, h.1))

pub tall_free : (slice : Slice) (place : ℕ) → IsTrue slice.is_p → slice.active ≤ 16 → IsPrefixFree (IsKindOf slice 2) (prediction_bits slice place)
tall_free slice place in_p few = made_free (IsKindOf slice 2) (prediction_bits slice place) (IsTall slice) (tall_bits slice) make_tall (split_tall slice place in_p)
    (both_free (AreSo (IsPart slice) 2) (parts_bits slice) (λ p. IsPattern) (λ p. pattern_bits false) (parts_free slice few) (λ p h. pattern_free false))

pub tall_no_parts : (slice : Slice) (place : ℕ) → IsTrue slice.is_p → (old : List Bool) → BeginsNone (AreSo (IsPart slice) 2) (parts_bits slice) old → BeginsNone (IsKindOf slice 2) (prediction_bits slice place) old
tall_no_parts slice place in_p old none = none_made (IsKindOf slice 2) (prediction_bits slice place) (IsTall slice) (tall_bits slice) make_tall (split_tall slice place in_p) old
    (none_first (AreSo (IsPart slice) 2) (parts_bits slice) (λ p. IsPattern) (λ p. pattern_bits false) old none)

pub tall_no_pattern : (slice : Slice) (place : ℕ) → IsTrue slice.is_p → slice.active ≤ 16 → (parts : List Part) (old mid : List Bool) → AreSo (IsPart slice) 2 parts → old ≡ parts_bits slice parts ++ mid
    → BeginsNone IsPattern (pattern_bits false) mid → BeginsNone (IsKindOf slice 2) (prediction_bits slice place) old
tall_no_pattern slice place in_p few parts old mid is e none = none_made (IsKindOf slice 2) (prediction_bits slice place) (IsTall slice) (tall_bits slice) make_tall (split_tall slice place in_p) old
    (none_second (AreSo (IsPart slice) 2) (parts_bits slice) (λ p. IsPattern) (λ p. pattern_bits false) (parts_free slice few) parts old mid is e none)

pub tall_read : (slice : Slice) (place : ℕ) → IsTrue slice.is_p → (parts : List Part) (pattern : ℕ) (old mid new : List Bool) → AreSo (IsPart slice) 2 parts → old ≡ parts_bits slice parts ++ mid
    → IsPattern pattern → mid ≡ pattern_bits false pattern ++ new → IsKindOf slice 2 (Tall parts pattern) × (old ≡ prediction_bits slice place (Tall parts pattern) ++ new)
unfolding prediction_bits
tall_read slice place in_p parts pattern old mid new is e is_p f =
    (((in_p, record { size = is.0; each = is.1; of_pattern = is_p }), refl), joined old mid new (parts_bits slice parts) (pattern_bits false pattern) e f)

-- ---- P_8x8

abbrev IsFour : Slice → List Sub × ℕ → Type 0
IsFour slice p = AreSo (IsSub slice) 4 p.0 × IsPattern p.1

abbrev four_bits : Slice → List Sub × ℕ → List Bool
four_bits slice p = subs_bits slice p.0 ++ pattern_bits false p.1

abbrev make_four : List Sub × ℕ → MbKind
make_four p = Four p.0 p.1

split_four : (slice : Slice) (place : ℕ) → IsTrue slice.is_p → (kind : MbKind) → IsKindOf slice 3 kind → Made (IsFour slice) (four_bits slice) make_four kind (prediction_bits slice place kind)
unfolding prediction_bits
split_four slice place in_p Skip h = absurd h.0
split_four slice place in_p (Pcm samples) h = absurd (inter_other slice.is_p 3 25 in_p (omega arith) (sym h.1))
split_four slice place in_p (Intra4 modes chroma pattern) h = absurd (inter_other slice.is_p 3 0 in_p (omega arith) (sym h.1))
split_four slice place in_p (Intra16 mode chroma pattern) h = absurd (inter_other slice.is_p 3 (intra16_type mode pattern) in_p (omega arith) (sym h.1))
split_four slice place in_p (Whole part pattern) h = absurd (omega (arith, h.1))
split_four slice place in_p (Wide parts pattern) h = absurd (omega (arith, h.1))
split_four slice place in_p (Tall parts pattern) h = absurd (omega (arith, h.1))
split_four slice place in_p (Four subs pattern) h = record { parts = (subs, pattern); are = ((h.0.1, h.0.2), h.0.3); same = refl; spelled = refl }
split_four slice place in_p (FourFirst subs pattern) h = absurd (omega (arith, h.1))

pub four_free : (slice : Slice) (place : ℕ) → IsTrue slice.is_p → slice.active ≤ 16 → IsPrefixFree (IsKindOf slice 3) (prediction_bits slice place)
four_free slice place in_p few = made_free (IsKindOf slice 3) (prediction_bits slice place) (IsFour slice) (four_bits slice) make_four (split_four slice place in_p)
    (both_free (AreSo (IsSub slice) 4) (subs_bits slice) (λ p. IsPattern) (λ p. pattern_bits false) (subs_free slice few) (λ p h. pattern_free false))

pub four_no_subs : (slice : Slice) (place : ℕ) → IsTrue slice.is_p → (old : List Bool) → BeginsNone (AreSo (IsSub slice) 4) (subs_bits slice) old → BeginsNone (IsKindOf slice 3) (prediction_bits slice place) old
four_no_subs slice place in_p old none = none_made (IsKindOf slice 3) (prediction_bits slice place) (IsFour slice) (four_bits slice) make_four (split_four slice place in_p) old
    (none_first (AreSo (IsSub slice) 4) (subs_bits slice) (λ p. IsPattern) (λ p. pattern_bits false) old none)

pub four_no_pattern : (slice : Slice) (place : ℕ) → IsTrue slice.is_p → slice.active ≤ 16 → (subs : List Sub) (old mid : List Bool) → AreSo (IsSub slice) 4 subs → old ≡ subs_bits slice subs ++ mid
    → BeginsNone IsPattern (pattern_bits false) mid → BeginsNone (IsKindOf slice 3) (prediction_bits slice place) old
four_no_pattern slice place in_p few subs old mid is e none = none_made (IsKindOf slice 3) (prediction_bits slice place) (IsFour slice) (four_bits slice) make_four (split_four slice place in_p) old
    (none_second (AreSo (IsSub slice) 4) (subs_bits slice) (λ p. IsPattern) (λ p. pattern_bits false) (subs_free slice few) subs old mid is e none)

pub four_read : (slice : Slice) (place : ℕ) → IsTrue slice.is_p → (subs : List Sub) (pattern : ℕ) (old mid new : List Bool) → AreSo (IsSub slice) 4 subs → old ≡ subs_bits slice subs ++ mid
    → IsPattern pattern → mid ≡ pattern_bits false pattern ++ new → IsKindOf slice 3 (Four subs pattern) × (old ≡ prediction_bits slice place (Four subs pattern) ++ new)
unfolding prediction_bits
four_read slice place in_p subs pattern old mid new is e is_p f =
    (((in_p, is.0, is.1, is_p), refl), joined old mid new (subs_bits slice subs) (pattern_bits false pattern) e f)

-- ---- P_8x8ref0

abbrev IsFourFirst : Slice → List Sub × ℕ → Type 0
IsFourFirst slice p = AreSo (IsFirstSub slice) 4 p.0 × IsPattern p.1

abbrev four_first_bits : Slice → List Sub × ℕ → List Bool
four_first_bits slice p = first_subs_bits p.0 ++ pattern_bits false p.1

abbrev make_four_first : List Sub × ℕ → MbKind
make_four_first p = FourFirst p.0 p.1

split_four_first : (slice : Slice) (place : ℕ) → IsTrue slice.is_p → (kind : MbKind) → IsKindOf slice 4 kind → Made (IsFourFirst slice) (four_first_bits slice) make_four_first kind (prediction_bits slice place kind)
unfolding prediction_bits
split_four_first slice place in_p Skip h = absurd h.0
split_four_first slice place in_p (Pcm samples) h = absurd (inter_other slice.is_p 4 25 in_p (omega arith) (sym h.1))
split_four_first slice place in_p (Intra4 modes chroma pattern) h = absurd (inter_other slice.is_p 4 0 in_p (omega arith) (sym h.1))
split_four_first slice place in_p (Intra16 mode chroma pattern) h = absurd (inter_other slice.is_p 4 (intra16_type mode pattern) in_p (omega arith) (sym h.1))
split_four_first slice place in_p (Whole part pattern) h = absurd (omega (arith, h.1))
split_four_first slice place in_p (Wide parts pattern) h = absurd (omega (arith, h.1))
split_four_first slice place in_p (Tall parts pattern) h = absurd (omega (arith, h.1))
split_four_first slice place in_p (Four subs pattern) h = absurd (omega (arith, h.1))
split_four_first slice place in_p (FourFirst subs pattern) h = record { parts = (subs, pattern); are = ((h.0.1, h.0.2), h.0.3); same = refl; spelled = refl }

pub four_first_free : (slice : Slice) (place : ℕ) → IsTrue slice.is_p → IsPrefixFree (IsKindOf slice 4) (prediction_bits slice place)
four_first_free slice place in_p = made_free (IsKindOf slice 4) (prediction_bits slice place) (IsFourFirst slice) (four_first_bits slice) make_four_first (split_four_first slice place in_p)
    (both_free (AreSo (IsFirstSub slice) 4) (first_subs_bits) (λ p. IsPattern) (λ p. pattern_bits false) (first_subs_free slice) (λ p h. pattern_free false))

pub four_first_no_subs : (slice : Slice) (place : ℕ) → IsTrue slice.is_p → (old : List Bool) → BeginsNone (AreSo (IsFirstSub slice) 4) (first_subs_bits) old → BeginsNone (IsKindOf slice 4) (prediction_bits slice place) old
four_first_no_subs slice place in_p old none = none_made (IsKindOf slice 4) (prediction_bits slice place) (IsFourFirst slice) (four_first_bits slice) make_four_first (split_four_first slice place in_p) old
    (none_first (AreSo (IsFirstSub slice) 4) (first_subs_bits) (λ p. IsPattern) (λ p. pattern_bits false) old none)

pub four_first_no_pattern : (slice : Slice) (place : ℕ) → IsTrue slice.is_p → (subs : List Sub) (old mid : List Bool) → AreSo (IsFirstSub slice) 4 subs → old ≡ first_subs_bits subs ++ mid
    → BeginsNone IsPattern (pattern_bits false) mid → BeginsNone (IsKindOf slice 4) (prediction_bits slice place) old
four_first_no_pattern slice place in_p subs old mid is e none = none_made (IsKindOf slice 4) (prediction_bits slice place) (IsFourFirst slice) (four_first_bits slice) make_four_first (split_four_first slice place in_p) old
    (none_second (AreSo (IsFirstSub slice) 4) (first_subs_bits) (λ p. IsPattern) (λ p. pattern_bits false) (first_subs_free slice) subs old mid is e none)

pub four_first_read : (slice : Slice) (place : ℕ) → IsTrue slice.is_p → (subs : List Sub) (pattern : ℕ) (old mid new : List Bool) → AreSo (IsFirstSub slice) 4 subs → old ≡ first_subs_bits subs ++ mid
    → IsPattern pattern → mid ≡ pattern_bits false pattern ++ new → IsKindOf slice 4 (FourFirst subs pattern) × (old ≡ prediction_bits slice place (FourFirst subs pattern) ++ new)
unfolding prediction_bits
four_first_read slice place in_p subs pattern old mid new is e is_p f =
    (((in_p, is.0, is.1, is_p), refl), joined old mid new (first_subs_bits subs) (pattern_bits false pattern) e f)
