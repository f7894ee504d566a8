-- Macroblocks' kinds as a whole: mb_type, and what stands behind it.
use Rattle.std.proofs.Common.{◌≡◌, ℕ, ◌+◌, ◌-◌, ◌%◌, ◌≤◌, Bool, true, false, List, ◌++◌, length, replicate, refl, sym, ap, ◌∙◌, subst, arith, append_assoc, Option, Some, None, OnOk, Result}
use Rattle.std.proofs.lemmas.List.{length-append}
use Rattle.bit_io.proofs.LawLemmas.{ue_prefix_free}
use Rattle.bit_io.proofs.UeLemmas.{length-ue, ue_form}
use Rattle.bit_io.specs.Bits.{bits_of}
use Rattle.bit_io.specs.Codewords.{IsUe, ue}
use Rattle.bit_io.specs.Reads.{BeginsNone, IsPrefixFree}
use Rattle.cavlc.specs.Parts.{Gives}
use Rattle.cb_types.specs.declared.macroblock.MbKind.{MbKind}
use Rattle.cb_types.specs.declared.macroblock.MbKind.TheVariants.{Skip, Pcm, Intra4, Intra16, Whole, Wide, Tall, Four, FourFirst}
use Rattle.mb_syntax.proofs.InterKindLemmas.{four_first_free, four_free, tall_free, whole_free, wide_free}
use Rattle.mb_syntax.proofs.IntraLemmas.{intra16_free, intra4_free, pcm_free}
use Rattle.mb_syntax.proofs.KindLemmas.{intra16_range}
use Rattle.mb_syntax.proofs.Pairs.{Made, both_free, made_free, none_first, none_made, none_second}
use Rattle.mb_syntax.specs.Kinds.{intra16_type, intra_type, mb_type}
use Rattle.mb_syntax.specs.Prediction.{IsKind, IsKindOf, kind_bits, prediction_bits}
use Rattle.mb_syntax.specs.MacroblockLayer.{place_before}
use Rattle.mb_syntax.specs.declared.slice.Slice.{Slice}

-- ---- numbers of kinds

pub in_i : (is_p : Bool) (number : ℕ) → is_p ≡ false → intra_type is_p number ≡ number
in_i true number e = absurd cc
in_i false number e = refl

pub in_p : (is_p : Bool) (number : ℕ) → is_p ≡ true → 5 ≤ number → intra_type is_p (number - 5) ≡ number
in_p true number e large = omega (arith, large)
in_p false number e large = absurd cc

few_intra : (is_p : Bool) (number : ℕ) → number ≤ 25 → intra_type is_p number ≤ 30
few_intra true number h = omega (arith, h)
few_intra false number h = omega (arith, h)

pub small_type : (slice : Slice) (kind : MbKind) → IsKind slice kind → mb_type slice.is_p kind ≤ 30
small_type slice Skip h = absurd h
small_type slice (Pcm samples) h = few_intra slice.is_p 25 (omega arith)
small_type slice (Intra4 modes chroma pattern) h = few_intra slice.is_p 0 (omega arith)
small_type slice (Intra16 mode chroma pattern) h = let range = intra16_range mode chroma pattern h in few_intra slice.is_p (intra16_type mode pattern) (omega (arith, range.1))
small_type slice (Whole part pattern) h = omega arith
small_type slice (Wide parts pattern) h = omega arith
small_type slice (Tall parts pattern) h = omega arith
small_type slice (Four subs pattern) h = omega arith
small_type slice (FourFirst subs pattern) h = omega arith

pub type-IsUe : (slice : Slice) (kind : MbKind) → IsKind slice kind → IsUe (mb_type slice.is_p kind)
type-IsUe slice kind h = let small = small_type slice kind h in omega (arith, small)

-- ---- no kind's bits begin another's

pub prediction_free : (slice : Slice) (place : ℕ) → slice.active ≤ 16 → (number : ℕ) → IsPrefixFree (IsKindOf slice number) (prediction_bits slice place)
prediction_free slice place few number Skip w after_v after_w h k e = absurd h.0
prediction_free slice place few number (Pcm samples) w after_v after_w h k e = pcm_free slice place (Pcm samples) w after_v after_w (h.0, refl) (k.0, k.1 ∙ sym h.1) e
prediction_free slice place few number (Intra4 modes chroma pattern) w after_v after_w h k e = intra4_free slice place (Intra4 modes chroma pattern) w after_v after_w (h.0, refl) (k.0, k.1 ∙ sym h.1) e
prediction_free slice place few number (Intra16 mode chroma pattern) w after_v after_w h k e = intra16_free slice place (intra16_type mode pattern) (intra16_range mode chroma pattern h.0).0 (intra16_range mode chroma pattern h.0).1 (Intra16 mode chroma pattern) w after_v after_w (h.0, refl) (k.0, k.1 ∙ sym h.1) e
prediction_free slice place few number (Whole part pattern) w after_v after_w h k e = whole_free slice place h.0.0 few (Whole part pattern) w after_v after_w (h.0, refl) (k.0, k.1 ∙ sym h.1) e
prediction_free slice place few number (Wide parts pattern) w after_v after_w h k e = wide_free slice place h.0.0 few (Wide parts pattern) w after_v after_w (h.0, refl) (k.0, k.1 ∙ sym h.1) e
prediction_free slice place few number (Tall parts pattern) w after_v after_w h k e = tall_free slice place h.0.0 few (Tall parts pattern) w after_v after_w (h.0, refl) (k.0, k.1 ∙ sym h.1) e
prediction_free slice place few number (Four subs pattern) w after_v after_w h k e = four_free slice place h.0.0 few (Four subs pattern) w after_v after_w (h.0, refl) (k.0, k.1 ∙ sym h.1) e
prediction_free slice place few number (FourFirst subs pattern) w after_v after_w h k e = four_first_free slice place h.0.0 (FourFirst subs pattern) w after_v after_w (h.0, refl) (k.0, k.1 ∙ sym h.1) e

abbrev IsTyped : Slice → ℕ × MbKind → Type 0
IsTyped slice p = IsUe p.0 × IsKindOf slice p.0 p.1

abbrev typed_bits : Slice → ℕ → ℕ × MbKind → List Bool
typed_bits slice place p = ue p.0 ++ prediction_bits slice (place + length (ue p.0)) p.1

abbrev make_kind : ℕ × MbKind → MbKind
make_kind p = p.1

split_kind : (slice : Slice) (place : ℕ) (kind : MbKind) → IsKind slice kind → Made (IsTyped slice) (typed_bits slice place) make_kind kind (kind_bits slice place kind)
split_kind slice place kind h = record { parts = (mb_type slice.is_p kind, kind); are = (type-IsUe slice kind h, (h, refl)); same = refl; spelled = refl }

pub kind_free : (slice : Slice) (place : ℕ) → slice.active ≤ 16 → IsPrefixFree (IsKind slice) (kind_bits slice place)
kind_free slice place few = made_free (IsKind slice) (kind_bits slice place) (IsTyped slice) (typed_bits slice place) make_kind (split_kind slice place)
    (both_free IsUe ue (λ number. IsKindOf slice number) (λ number. prediction_bits slice (place + length (ue number))) ue_prefix_free (λ number h. prediction_free slice (place + length (ue number)) few number))

-- ---- places

pub same_place : (slice : Slice) (p q : ℕ) (kind : MbKind) → p % 8 ≡ q % 8 → prediction_bits slice p kind ≡ prediction_bits slice q kind
unfolding prediction_bits
same_place slice p q Skip e = refl
same_place slice p q (Pcm samples) e = ap (λ (x : ℕ). replicate ((8 - x) % 8) false ++ bits_of samples) e
same_place slice p q (Intra4 modes chroma pattern) e = refl
same_place slice p q (Intra16 mode chroma pattern) e = refl
same_place slice p q (Whole part pattern) e = refl
same_place slice p q (Wide parts pattern) e = refl
same_place slice p q (Tall parts pattern) e = refl
same_place slice p q (Four subs pattern) e = refl
same_place slice p q (FourFirst subs pattern) e = refl

pub kind_at_same_place : (slice : Slice) (p q : ℕ) (kind : MbKind) → p % 8 ≡ q % 8 → kind_bits slice p kind ≡ kind_bits slice q kind
kind_at_same_place slice p q kind e =
    let type = ue (mb_type slice.is_p kind) in
    let same : (p + length type) % 8 ≡ (q + length type) % 8 = omega (arith, e) in
    ap (λ (x : List Bool). type ++ x) (same_place slice (p + length type) (q + length type) kind same)

place_behind : (old first mid : List Bool) → old ≡ first ++ mid → place_before mid % 8 ≡ (place_before old + length first) % 8
place_behind old first mid e =
    let long : length old ≡ length first + length mid = ap length e ∙ length-append first mid in
    omega (arith, long)

pub some_bits : (slice : Slice) (place : ℕ) (kind : MbKind) → IsKind slice kind → 1 ≤ length (kind_bits slice place kind)
some_bits slice place kind h =
    let number = mb_type slice.is_p kind in
    let form = ue_form number (type-IsUe slice kind h) in
    let long = length-ue form.1 in
    omega (arith, length-append (ue number) (prediction_bits slice (place + length (ue number)) kind), long)

-- ---- reading

pub no_type : (slice : Slice) (place : ℕ) (old : List Bool) → BeginsNone IsUe ue old → BeginsNone (IsKind slice) (kind_bits slice place) old
no_type slice place old none = none_made (IsKind slice) (kind_bits slice place) (IsTyped slice) (typed_bits slice place) make_kind (split_kind slice place) old
    (none_first IsUe ue (λ number. IsKindOf slice number) (λ number. prediction_bits slice (place + length (ue number))) old none)

pub kind_read : (slice : Slice) (number : ℕ) (old mid new : List Bool) (result : Option MbKind) → IsUe number → old ≡ ue number ++ mid → Gives (IsKindOf slice number) (prediction_bits slice (place_before mid)) mid result new
    → Gives (IsKind slice) (kind_bits slice (place_before old)) old result new
kind_read slice number old mid new None is e none =
    let place = place_before old in
    let at = place_behind old (ue number) mid e in
    let here : BeginsNone (IsKindOf slice number) (prediction_bits slice (place + length (ue number))) mid = λ kind rest h f.
    none kind rest h (f ∙ ap (λ (x : List Bool). x ++ rest) (sym (same_place slice (place_before mid) (place + length (ue number)) kind at))) in
    none_made (IsKind slice) (kind_bits slice place) (IsTyped slice) (typed_bits slice place) make_kind (split_kind slice place) old
    (none_second IsUe ue (λ n. IsKindOf slice n) (λ n. prediction_bits slice (place + length (ue n))) ue_prefix_free number old mid is e here)
kind_read slice number old mid new (Some kind) is e (h, f) =
    let place = place_before old in
    let at = place_behind old (ue number) mid e in
    let bits : old ≡ (ue number ++ prediction_bits slice (place + length (ue number)) kind) ++ new =
    e ∙ ap (λ (x : List Bool). ue number ++ x) (f ∙ ap (λ (x : List Bool). x ++ new) (same_place slice (place_before mid) (place + length (ue number)) kind at))
    ∙ sym (append_assoc (ue number) (prediction_bits slice (place + length (ue number)) kind) new) in
    (h.0, subst (λ (n : ℕ). old ≡ (ue n ++ prediction_bits slice (place + length (ue n)) kind) ++ new) (sym h.1) bits)

pub intra_kind_read : (slice : Slice) (number of : ℕ) (old mid new : List Bool) (result : Option MbKind) → intra_type slice.is_p of ≡ number → IsUe number → old ≡ ue number ++ mid
    → Gives (IsKindOf slice (intra_type slice.is_p of)) (prediction_bits slice (place_before mid)) mid result new → Gives (IsKind slice) (kind_bits slice (place_before old)) old result new
intra_kind_read slice number of old mid new result same is e h =
    kind_read slice number old mid new result is e (subst (λ (n : ℕ). Gives (IsKindOf slice n) (prediction_bits slice (place_before mid)) mid result new) same h)

-- ---- writing

pub written_at : {E : Type 0} (slice : Slice) (place : ℕ) (kind same : MbKind) (start out : List Bool) (result : Result (Unit {0}) E) → kind ≡ same
    → OnOk result (out ≡ start ++ prediction_bits slice place same) → OnOk result (out ≡ start ++ prediction_bits slice place kind)
written_at slice place kind same start out result e h = subst (λ (k : MbKind). OnOk result (out ≡ start ++ prediction_bits slice place k)) (sym e) h
