-- Reading the prediction of intra macroblocks, part by part.
use Rattle.std.proofs.Common.{◌≡◌, ◌≢◌, ℕ, ◌+◌, ◌-◌, ◌*◌, ◌/◌, ◌%◌, ◌<◌, ◌≤◌, ◌⊎◌, inl, inr, Bool, true, false, List, ◌++◌, length, replicate, refl, sym, ap, ◌∙◌, subst, arith, append_assoc}
use Rattle.std.proofs.lemmas.Nat.{pow_pos}
use Rattle.std.specs.List.{flat_map}
use Rattle.bit_io.specs.Bits.{bits_of, u}
use Rattle.bit_io.specs.Codewords.{IsU, IsUe, ue}
use Rattle.bit_io.specs.Reads.{BeginsNone, IsPrefixFree}
use Rattle.bit_io.proofs.LawLemmas.{same_front, u_prefix_free, ue_prefix_free}
use Rattle.bit_io.proofs.NumberLemmas.{u_zero}
use Rattle.cb_types.specs.declared.macroblock.Mode.{Mode}
use Rattle.cb_types.specs.declared.macroblock.MbKind.TheVariants.{Intra4, Intra16, Pcm}
use Rattle.cb_tables.proofs.PatternLemmas.{code_undone, pattern_undone}
use Rattle.cb_tables.specs.CodedBlockPattern.{pattern_at, pattern_code_at}
use Rattle.mb_syntax.proofs.KindLemmas.{AreIntra4, AreModesChroma, ArePcm, IsChromaMode, IsDone, IsPattern, intra4_bits, make_intra16, make_intra4, make_pcm, modes_chroma_bits, pcm_bits, split_intra16, split_intra4, split_pcm}
use Rattle.mb_syntax.proofs.Lists.{list_free}
use Rattle.mb_syntax.proofs.ModeLemmas.{mode_free}
use Rattle.mb_syntax.proofs.Pairs.{both_free, made_free, none_first, none_made, none_second}
use Rattle.mb_syntax.proofs.Steps.{joined}
use Rattle.mb_syntax.specs.Kinds.{intra16_type, intra_type}
use Rattle.mb_syntax.specs.Prediction.{AreModes, AreSamples, IsIntra16, IsKindOf, IsMode, alignment, mode_bits, pattern_bits, prediction_bits}
use Rattle.mb_syntax.specs.MacroblockLayer.{place_before}
use Rattle.mb_syntax.specs.declared.slice.Slice.{Slice}

-- ---- samples

pub IsByte-IsU : (byte : ℕ) → byte < 256 → IsU 8 byte
IsByte-IsU byte h = omega arith

pub byte_free : IsPrefixFree (λ (byte : ℕ). byte < 256) (λ (byte : ℕ). u byte 8)
byte_free v w after_v after_w h k e = u_prefix_free 8 v w after_v after_w (IsByte-IsU v h) (IsByte-IsU w k) e

pub bits_of_is : (bytes : List ℕ) → bits_of bytes ≡ flat_map (λ (byte : ℕ). u byte 8) bytes
unfolding bits_of
bits_of_is bytes = refl

pub samples_read : (samples : List ℕ) (old new : List Bool) → AreSamples samples × (old ≡ flat_map (λ (byte : ℕ). u byte 8) samples ++ new) → AreSamples samples × (old ≡ bits_of samples ++ new)
unfolding bits_of
samples_read samples old new h = (h.0, h.1)

pub no_samples : (old : List Bool) → BeginsNone AreSamples (flat_map (λ (byte : ℕ). u byte 8)) old → BeginsNone AreSamples bits_of old
unfolding bits_of
no_samples old none = none

pub samples_free : IsPrefixFree AreSamples bits_of
unfolding bits_of
samples_free = list_free (λ (byte : ℕ). byte < 256) (λ (byte : ℕ). u byte 8) byte_free 384

-- ---- pcm_alignment_zero_bit

pub aligns : (n : ℕ) (bits : List Bool) → n ≡ length bits % 8 → alignment (place_before bits) ≡ u 0 n
aligns n bits e = let same : (8 - place_before bits % 8) % 8 ≡ n = omega (arith, e) in ap (λ (x : ℕ). replicate x false) same ∙ sym (u_zero n)

pub alignment_read : (n filler : ℕ) (old new : List Bool) → n ≡ length old % 8 → old ≡ u filler n ++ new → filler ≡ 0 → (Unit {0}) × (old ≡ alignment (place_before old) ++ new)
alignment_read n filler old new at e none = (tt, e ∙ ap (λ (x : ℕ). u x n ++ new) none ∙ ap (λ (x : List Bool). x ++ new) (sym (aligns n old at)))

pub no_alignment : (n : ℕ) (old : List Bool) → n ≡ length old % 8 → BeginsNone (IsU n) (λ v. u v n) old → BeginsNone IsDone (λ done. alignment (place_before old)) old
no_alignment n old at none = λ done rest is e. none 0 rest (pow_pos n) (e ∙ ap (λ (x : List Bool). x ++ rest) (aligns n old at))

pub wrong_alignment : (n filler : ℕ) (old new : List Bool) → n ≡ length old % 8 → IsU n filler → old ≡ u filler n ++ new → filler ≢ 0 → BeginsNone IsDone (λ done. alignment (place_before old)) old
wrong_alignment n filler old new at is e other = λ done rest d f.
    let same = u_prefix_free n filler 0 new rest is (pow_pos n) (sym e ∙ f ∙ ap (λ (x : List Bool). x ++ rest) (aligns n old at)) in
    other same.0

pub done_free : (place : ℕ) → IsPrefixFree IsDone (λ done. alignment place)
done_free place v w after_v after_w h k e = (refl, (same_front (length (alignment place)) (alignment place) (alignment place) after_v after_w refl refl e).1)

-- ---- Pcm

pub pcm_none_first : (slice : Slice) (old : List Bool) → BeginsNone IsDone (λ done. alignment (place_before old)) old → BeginsNone (IsKindOf slice (intra_type slice.is_p 25)) (prediction_bits slice (place_before old)) old
pcm_none_first slice old none =
    none_made (IsKindOf slice (intra_type slice.is_p 25)) (prediction_bits slice (place_before old)) ArePcm (pcm_bits (place_before old)) make_pcm (split_pcm slice (place_before old)) old
    (none_first IsDone (λ done. alignment (place_before old)) (λ done. AreSamples) (λ done. bits_of) old none)

pub pcm_none_second : (slice : Slice) (old mid : List Bool) → old ≡ alignment (place_before old) ++ mid → BeginsNone AreSamples bits_of mid → BeginsNone (IsKindOf slice (intra_type slice.is_p 25)) (prediction_bits slice (place_before old)) old
pcm_none_second slice old mid e none =
    none_made (IsKindOf slice (intra_type slice.is_p 25)) (prediction_bits slice (place_before old)) ArePcm (pcm_bits (place_before old)) make_pcm (split_pcm slice (place_before old)) old
    (none_second IsDone (λ done. alignment (place_before old)) (λ done. AreSamples) (λ done. bits_of) (done_free (place_before old)) tt old mid tt e none)

pub pcm_read : (slice : Slice) (samples : List ℕ) (old mid new : List Bool) → old ≡ alignment (place_before old) ++ mid → AreSamples samples → mid ≡ bits_of samples ++ new
    → IsKindOf slice (intra_type slice.is_p 25) (Pcm samples) × (old ≡ prediction_bits slice (place_before old) (Pcm samples) ++ new)
unfolding prediction_bits
pcm_read slice samples old mid new e is f = ((is, refl), joined old mid new (alignment (place_before old)) (bits_of samples) e f)

pub pcm_free : (slice : Slice) (place : ℕ) → IsPrefixFree (IsKindOf slice (intra_type slice.is_p 25)) (prediction_bits slice place)
pcm_free slice place =
    made_free (IsKindOf slice (intra_type slice.is_p 25)) (prediction_bits slice place) ArePcm (pcm_bits place) make_pcm (split_pcm slice place)
    (both_free IsDone (λ done. alignment place) (λ done. AreSamples) (λ done. bits_of) (done_free place) (λ done d. samples_free))

-- ---- Intra4

pub chroma_free : IsPrefixFree IsChromaMode ue
chroma_free v w after_v after_w h k e = ue_prefix_free v w after_v after_w (omega (arith, h)) (omega (arith, k)) e

pub modes_free : IsPrefixFree AreModes (flat_map mode_bits)
modes_free = list_free IsMode mode_bits mode_free 16

pub modes_chroma_free : IsPrefixFree AreModesChroma modes_chroma_bits
modes_chroma_free = both_free AreModes (flat_map mode_bits) (λ modes. IsChromaMode) (λ modes. ue) modes_free (λ modes h. chroma_free)

intra4_none : (slice : Slice) (place : ℕ) (old : List Bool) → BeginsNone AreIntra4 intra4_bits old → BeginsNone (IsKindOf slice (intra_type slice.is_p 0)) (prediction_bits slice place) old
intra4_none slice place old none = none_made (IsKindOf slice (intra_type slice.is_p 0)) (prediction_bits slice place) AreIntra4 intra4_bits make_intra4 (split_intra4 slice place) old none

pub intra4_no_modes : (slice : Slice) (place : ℕ) (old : List Bool) → BeginsNone AreModes (flat_map mode_bits) old → BeginsNone (IsKindOf slice (intra_type slice.is_p 0)) (prediction_bits slice place) old
intra4_no_modes slice place old none = intra4_none slice place old
    (none_first AreModesChroma modes_chroma_bits (λ p. IsPattern) (λ p. pattern_bits true) old
    (none_first AreModes (flat_map mode_bits) (λ modes. IsChromaMode) (λ modes. ue) old none))

pub intra4_no_chroma : (slice : Slice) (place : ℕ) (modes : List Mode) (old mid : List Bool) → AreModes modes → old ≡ flat_map mode_bits modes ++ mid → BeginsNone IsChromaMode ue mid
    → BeginsNone (IsKindOf slice (intra_type slice.is_p 0)) (prediction_bits slice place) old
intra4_no_chroma slice place modes old mid is e none = intra4_none slice place old
    (none_first AreModesChroma modes_chroma_bits (λ p. IsPattern) (λ p. pattern_bits true) old
    (none_second AreModes (flat_map mode_bits) (λ modes. IsChromaMode) (λ modes. ue) modes_free modes old mid is e none))

pub intra4_no_pattern : (slice : Slice) (place : ℕ) (modes : List Mode) (chroma : ℕ) (old mid new : List Bool) → AreModes modes → old ≡ flat_map mode_bits modes ++ mid → IsChromaMode chroma → mid ≡ ue chroma ++ new
    → BeginsNone IsPattern (pattern_bits true) new → BeginsNone (IsKindOf slice (intra_type slice.is_p 0)) (prediction_bits slice place) old
intra4_no_pattern slice place modes chroma old mid new is e chroma_is f none = intra4_none slice place old
    (none_second AreModesChroma modes_chroma_bits (λ p. IsPattern) (λ p. pattern_bits true) modes_chroma_free (modes, chroma) old new (is, chroma_is)
    (joined old mid new (flat_map mode_bits modes) (ue chroma) e f) none)

pub intra4_read : (slice : Slice) (place : ℕ) (modes : List Mode) (chroma pattern : ℕ) (old first second new : List Bool) → AreModes modes → old ≡ flat_map mode_bits modes ++ first → IsChromaMode chroma → first ≡ ue chroma ++ second
    → IsPattern pattern → second ≡ pattern_bits true pattern ++ new → IsKindOf slice (intra_type slice.is_p 0) (Intra4 modes chroma pattern) × (old ≡ prediction_bits slice place (Intra4 modes chroma pattern) ++ new)
unfolding prediction_bits
intra4_read slice place modes chroma pattern old first second new is e chroma_is f pattern_is g =
    (((is, chroma_is, pattern_is), refl), joined old second new (flat_map mode_bits modes ++ ue chroma) (pattern_bits true pattern) (joined old first second (flat_map mode_bits modes) (ue chroma) e f) g)

pub pattern_free : (intra : Bool) → IsPrefixFree IsPattern (pattern_bits intra)
pattern_free intra v w after_v after_w h k e =
    let v_is = pattern_undone v intra h in
    let w_is = pattern_undone w intra k in
    let codes = ue_prefix_free (pattern_code_at v intra) (pattern_code_at w intra) after_v after_w (omega (arith, v_is.0)) (omega (arith, w_is.0)) e in
    (sym v_is.1 ∙ ap (λ (x : ℕ). pattern_at x intra) codes.0 ∙ w_is.1, codes.1)

small_pattern : (pattern : ℕ) (intra : Bool) → IsPattern pattern → IsUe (pattern_code_at pattern intra)
small_pattern pattern intra h = let small = (pattern_undone pattern intra h).0 in omega (arith, small)

pub no_pattern : (intra : Bool) (old : List Bool) → BeginsNone IsUe ue old → BeginsNone IsPattern (pattern_bits intra) old
no_pattern intra old none = λ pattern rest is e. none (pattern_code_at pattern intra) rest (small_pattern pattern intra is) e

pub wrong_pattern : (intra : Bool) (code : ℕ) (old new : List Bool) → IsUe code → old ≡ ue code ++ new → 47 < code → BeginsNone IsPattern (pattern_bits intra) old
wrong_pattern intra code old new is e large = λ pattern rest h f.
    let same = ue_prefix_free code (pattern_code_at pattern intra) new rest is (small_pattern pattern intra h) (sym e ∙ f) in
    let few = (pattern_undone pattern intra h).0 in
    omega (arith, large, same.0, few)

pub pattern_read : (intra : Bool) (code : ℕ) (old new : List Bool) → code ≤ 47 → old ≡ ue code ++ new → IsPattern (pattern_at code intra) × (old ≡ pattern_bits intra (pattern_at code intra) ++ new)
pattern_read intra code old new few e =
    let undone = code_undone code intra few in
    (undone.0, e ∙ ap (λ (x : ℕ). ue x ++ new) (sym undone.1))

pub intra4_free : (slice : Slice) (place : ℕ) → IsPrefixFree (IsKindOf slice (intra_type slice.is_p 0)) (prediction_bits slice place)
intra4_free slice place =
    made_free (IsKindOf slice (intra_type slice.is_p 0)) (prediction_bits slice place) AreIntra4 intra4_bits make_intra4 (split_intra4 slice place)
    (both_free AreModesChroma modes_chroma_bits (λ p. IsPattern) (λ p. pattern_bits true) modes_chroma_free (λ p h. pattern_free true))

-- ---- Intra16

pub intra16_none : (slice : Slice) (place number : ℕ) → 1 ≤ number → number ≤ 24 → (old : List Bool) → BeginsNone IsChromaMode ue old → BeginsNone (IsKindOf slice (intra_type slice.is_p number)) (prediction_bits slice place) old
intra16_none slice place number some few old none =
    none_made (IsKindOf slice (intra_type slice.is_p number)) (prediction_bits slice place) IsChromaMode ue (make_intra16 number) (split_intra16 slice place number some few) old none

pub intra16_free : (slice : Slice) (place number : ℕ) → 1 ≤ number → number ≤ 24 → IsPrefixFree (IsKindOf slice (intra_type slice.is_p number)) (prediction_bits slice place)
intra16_free slice place number some few =
    made_free (IsKindOf slice (intra_type slice.is_p number)) (prediction_bits slice place) IsChromaMode ue (make_intra16 number) (split_intra16 slice place number some few) chroma_free

-- all luma is coded, or none
pub record IsLuma (number luma : ℕ) : Type 0 where
  pub either : ((12 < number) × (luma ≡ 15)) ⊎ ((number ≤ 12) × (luma ≡ 0))

intra16_of : (number luma chroma : ℕ) → 1 ≤ number → number ≤ 24 → IsLuma number luma → IsChromaMode chroma
    → IsIntra16 ((number - 1) % 4) chroma (luma + 16 * ((number - 1) / 4 % 3)) × (intra16_type ((number - 1) % 4) (luma + 16 * ((number - 1) / 4 % 3)) ≡ number)
intra16_of number luma chroma some few is h =
    let pattern = luma + 16 * ((number - 1) / 4 % 3) in
    elim is.either [
      | inl p ↦
          let low : pattern % 16 ≡ 15 = omega (arith, p.1) in
          let high : pattern / 16 ≡ (number - 1) / 4 % 3 = omega (arith, p.1) in
          (record { of_mode = omega arith; of_chroma = h; luma = inr low; chroma_pattern = omega (arith, high) }, rw low (omega (arith, high, p.0, some, few)))
      | inr p ↦
          let low : pattern % 16 ≡ 0 = omega (arith, p.1) in
          let high : pattern / 16 ≡ (number - 1) / 4 % 3 = omega (arith, p.1) in
          (record { of_mode = omega arith; of_chroma = h; luma = inl low; chroma_pattern = omega (arith, high) }, rw low (omega (arith, high, p.0, some, few)))
    ]

pub intra16_read : (slice : Slice) (place number luma chroma : ℕ) (old new : List Bool) → 1 ≤ number → number ≤ 24 → IsLuma number luma → IsChromaMode chroma → old ≡ ue chroma ++ new
    → IsKindOf slice (intra_type slice.is_p number) (Intra16 ((number - 1) % 4) chroma (luma + 16 * ((number - 1) / 4 % 3))) × (old ≡ prediction_bits slice place (Intra16 ((number - 1) % 4) chroma (luma + 16 * ((number - 1) / 4 % 3))) ++ new)
unfolding prediction_bits
intra16_read slice place number luma chroma old new some few is h e =
    let of = intra16_of number luma chroma some few is h in
    ((of.0, ap (intra_type slice.is_p) of.1), e)

-- ---- writing

pub code-IsUe : (pattern code : ℕ) (intra : Bool) → IsPattern pattern → code ≡ pattern_code_at pattern intra → IsUe code
code-IsUe pattern code intra h e = subst (λ (x : ℕ). IsUe x) (sym e) (small_pattern pattern intra h)

pub samples_written : (samples : List ℕ) (start out : List Bool) → out ≡ start ++ flat_map (λ (byte : ℕ). u byte 8) samples → out ≡ start ++ bits_of samples
unfolding bits_of
samples_written samples start out e = e

pub pcm_written : (n : ℕ) (samples : List ℕ) (start mid out : List Bool) → n ≡ (8 - length start % 8) % 8 → mid ≡ start ++ u 0 n → out ≡ mid ++ bits_of samples → out ≡ start ++ (alignment (length start) ++ bits_of samples)
pcm_written n samples start mid out at e f =
    f ∙ ap (λ (x : List Bool). x ++ bits_of samples) (e ∙ ap (λ (x : List Bool). start ++ x) (u_zero n ∙ ap (λ (x : ℕ). replicate x false) at))
    ∙ append_assoc start (alignment (length start)) (bits_of samples)
