-- The kinds of macroblocks by mb_type: a kind with this mb_type is made of these parts, one codeword or list of them behind the other.
use Rattle.std.proofs.Common.{◌≡◌, ℕ, ◌+◌, ◌-◌, ◌*◌, ◌/◌, ◌%◌, ◌<◌, ◌≤◌, inl, inr, Bool, true, false, IsTrue, List, ◌++◌, refl, ap₂, subst, arith}
use Rattle.std.proofs.lemmas.Bool.{cases_lt, le-ltb, lt-ltb}
use Rattle.std.specs.Prelude.{if◌then◌else◌, nat_lt}
use Rattle.std.specs.List.{flat_map}
use Rattle.bit_io.specs.Bits.{bits_of}
use Rattle.bit_io.specs.Codewords.{ue}
use Rattle.cb_types.specs.declared.macroblock.MbKind.{MbKind}
use Rattle.cb_types.specs.declared.macroblock.MbKind.TheVariants.{Skip, Pcm, Intra4, Intra16, Whole, Wide, Tall, Four, FourFirst}
use Rattle.cb_types.specs.declared.macroblock.Mode.{Mode}
use Rattle.mb_syntax.proofs.Pairs.{Made}
use Rattle.mb_syntax.specs.Kinds.{intra16_type, intra_type}
use Rattle.mb_syntax.specs.Prediction.{AreModes, AreSamples, IsIntra16, IsKindOf, alignment, mode_bits, pattern_bits, prediction_bits}
use Rattle.mb_syntax.specs.declared.slice.Slice.{Slice}

pub intra_same : (is_p : Bool) (m n : ℕ) → intra_type is_p m ≡ intra_type is_p n → m ≡ n
intra_same true m n e = omega (arith, e)
intra_same false m n e = e

pub inter_other : (is_p : Bool) (m n : ℕ) → IsTrue is_p → m < 5 → m ≡ intra_type is_p n → ⊥
inter_other true m n h few e = omega (arith, few, e)
inter_other false m n h few e = cc

-- the parts of mb_type of Intra_16x16
pub record SpellsIntra16 (mode pattern number : ℕ) : Type 0 where
  pub some : 1 ≤ number
  pub few : number ≤ 24
  pub of_mode : mode ≡ (number - 1) % 4
  pub of_chroma : pattern / 16 ≡ (number - 1) / 4 % 3
  pub low : number ≤ 12 → pattern % 16 ≡ 0
  pub high : 13 ≤ number → pattern % 16 ≡ 15

pub intra16_parts : (mode chroma pattern : ℕ) → IsIntra16 mode chroma pattern → SpellsIntra16 mode pattern (intra16_type mode pattern)
intra16_parts mode chroma pattern h =
    let m : mode ≤ 3 = h.of_mode in
    let c : pattern / 16 ≤ 2 = h.chroma_pattern in
    elim h.luma [
      | inl e ↦ rw e (record { some = omega (arith, m, c); few = omega (arith, m, c); of_mode = omega (arith, m, c); of_chroma = omega (arith, m, c); low = λ l. e; high = λ l. absurd (omega (arith, l, m, c)) })
      | inr e ↦ rw e (record { some = omega (arith, m, c); few = omega (arith, m, c); of_mode = omega (arith, m, c); of_chroma = omega (arith, m, c); low = λ l. absurd (omega (arith, l, m, c)); high = λ l. e })
    ]

pub intra16_range : (mode chroma pattern : ℕ) → IsIntra16 mode chroma pattern → (1 ≤ intra16_type mode pattern) × (intra16_type mode pattern ≤ 24)
intra16_range mode chroma pattern h = let parts = intra16_parts mode chroma pattern h in (parts.some, parts.few)

abbrev pub IsPattern : ℕ → Type 0
IsPattern pattern = pattern ≤ 47

abbrev pub IsChromaMode : ℕ → Type 0
IsChromaMode mode = mode ≤ 3

abbrev pub IsDone : Unit {0} → Type 0
IsDone done = Unit {0}

-- I_PCM
abbrev pub ArePcm : (Unit {0}) × List ℕ → Type 0
ArePcm p = IsDone p.0 × AreSamples p.1

abbrev pub pcm_bits : ℕ → (Unit {0}) × List ℕ → List Bool
pcm_bits place p = alignment place ++ bits_of p.1

abbrev pub make_pcm : (Unit {0}) × List ℕ → MbKind
make_pcm p = Pcm p.1

pub split_pcm : (slice : Slice) (place : ℕ) (kind : MbKind) → IsKindOf slice (intra_type slice.is_p 25) kind → Made ArePcm (pcm_bits place) make_pcm kind (prediction_bits slice place kind)
unfolding prediction_bits
split_pcm slice place Skip h = absurd h.0
split_pcm slice place (Pcm samples) h = record { parts = (tt, samples); are = (tt, h.0); same = refl; spelled = refl }
split_pcm slice place (Intra4 modes chroma pattern) h = absurd (omega (arith, intra_same slice.is_p 0 25 h.1))
split_pcm slice place (Intra16 mode chroma pattern) h = absurd (omega (arith, intra16_range mode chroma pattern h.0, intra_same slice.is_p (intra16_type mode pattern) 25 h.1))
split_pcm slice place (Whole part pattern) h = absurd (inter_other slice.is_p 0 25 h.0.0 (omega arith) h.1)
split_pcm slice place (Wide parts pattern) h = absurd (inter_other slice.is_p 1 25 h.0.0 (omega arith) h.1)
split_pcm slice place (Tall parts pattern) h = absurd (inter_other slice.is_p 2 25 h.0.0 (omega arith) h.1)
split_pcm slice place (Four subs pattern) h = absurd (inter_other slice.is_p 3 25 h.0.0 (omega arith) h.1)
split_pcm slice place (FourFirst subs pattern) h = absurd (inter_other slice.is_p 4 25 h.0.0 (omega arith) h.1)

-- I_NxN
abbrev pub AreModesChroma : List Mode × ℕ → Type 0
AreModesChroma p = AreModes p.0 × IsChromaMode p.1

abbrev pub modes_chroma_bits : List Mode × ℕ → List Bool
modes_chroma_bits p = flat_map mode_bits p.0 ++ ue p.1

abbrev pub AreIntra4 : (List Mode × ℕ) × ℕ → Type 0
AreIntra4 p = AreModesChroma p.0 × IsPattern p.1

abbrev pub intra4_bits : (List Mode × ℕ) × ℕ → List Bool
intra4_bits p = modes_chroma_bits p.0 ++ pattern_bits true p.1

abbrev pub make_intra4 : (List Mode × ℕ) × ℕ → MbKind
make_intra4 p = Intra4 p.0.0 p.0.1 p.1

pub split_intra4 : (slice : Slice) (place : ℕ) (kind : MbKind) → IsKindOf slice (intra_type slice.is_p 0) kind → Made AreIntra4 intra4_bits make_intra4 kind (prediction_bits slice place kind)
unfolding prediction_bits
split_intra4 slice place Skip h = absurd h.0
split_intra4 slice place (Pcm samples) h = absurd (omega (arith, intra_same slice.is_p 25 0 h.1))
split_intra4 slice place (Intra4 modes chroma pattern) h = record { parts = ((modes, chroma), pattern); are = ((h.0.0, h.0.1), h.0.2); same = refl; spelled = refl }
split_intra4 slice place (Intra16 mode chroma pattern) h = absurd (omega (arith, intra16_range mode chroma pattern h.0, intra_same slice.is_p (intra16_type mode pattern) 0 h.1))
split_intra4 slice place (Whole part pattern) h = absurd (inter_other slice.is_p 0 0 h.0.0 (omega arith) h.1)
split_intra4 slice place (Wide parts pattern) h = absurd (inter_other slice.is_p 1 0 h.0.0 (omega arith) h.1)
split_intra4 slice place (Tall parts pattern) h = absurd (inter_other slice.is_p 2 0 h.0.0 (omega arith) h.1)
split_intra4 slice place (Four subs pattern) h = absurd (inter_other slice.is_p 3 0 h.0.0 (omega arith) h.1)
split_intra4 slice place (FourFirst subs pattern) h = absurd (inter_other slice.is_p 4 0 h.0.0 (omega arith) h.1)

-- Intra_16x16: its mb_type has the mode and the pattern
abbrev pub pattern16 : ℕ → ℕ
pattern16 number = (if nat_lt 12 number then 15 else 0) + 16 * ((number - 1) / 4 % 3)

abbrev pub make_intra16 : ℕ → ℕ → MbKind
make_intra16 number chroma = Intra16 ((number - 1) % 4) chroma (pattern16 number)

pattern_of_type : (pattern number : ℕ) → pattern / 16 ≡ (number - 1) / 4 % 3 → (number ≤ 12 → pattern % 16 ≡ 0) → (13 ≤ number → pattern % 16 ≡ 15) → pattern ≡ pattern16 number
pattern_of_type pattern number e low high = elim (cases_lt 12 number) [
  | inl more ↦ rw (lt-ltb 12 number more) (omega (arith, high more, e))
  | inr few ↦ rw (le-ltb 12 number few) (omega (arith, low few, e))
]

intra16_made : (mode chroma pattern number : ℕ) → IsIntra16 mode chroma pattern → intra16_type mode pattern ≡ number → Made IsChromaMode ue (make_intra16 number) (Intra16 mode chroma pattern) (ue chroma)
intra16_made mode chroma pattern number h e =
    let parts = subst (λ (x : ℕ). SpellsIntra16 mode pattern x) e (intra16_parts mode chroma pattern h) in
    let same = ap₂ (λ (x y : ℕ). Intra16 x chroma y) parts.of_mode (pattern_of_type pattern number parts.of_chroma parts.low parts.high) in
    record { parts = chroma; are = h.of_chroma; same = same; spelled = refl }

pub split_intra16 : (slice : Slice) (place number : ℕ) → 1 ≤ number → number ≤ 24 → (kind : MbKind) → IsKindOf slice (intra_type slice.is_p number) kind → Made IsChromaMode ue (make_intra16 number) kind (prediction_bits slice place kind)
unfolding prediction_bits
split_intra16 slice place number some few Skip h = absurd h.0
split_intra16 slice place number some few (Pcm samples) h = absurd (omega (arith, some, few, intra_same slice.is_p 25 number h.1))
split_intra16 slice place number some few (Intra4 modes chroma pattern) h = absurd (omega (arith, some, few, intra_same slice.is_p 0 number h.1))
split_intra16 slice place number some few (Intra16 mode chroma pattern) h = intra16_made mode chroma pattern number h.0 (intra_same slice.is_p (intra16_type mode pattern) number h.1)
split_intra16 slice place number some few (Whole part pattern) h = absurd (inter_other slice.is_p 0 number h.0.0 (omega arith) h.1)
split_intra16 slice place number some few (Wide parts pattern) h = absurd (inter_other slice.is_p 1 number h.0.0 (omega arith) h.1)
split_intra16 slice place number some few (Tall parts pattern) h = absurd (inter_other slice.is_p 2 number h.0.0 (omega arith) h.1)
split_intra16 slice place number some few (Four subs pattern) h = absurd (inter_other slice.is_p 3 number h.0.0 (omega arith) h.1)
split_intra16 slice place number some few (FourFirst subs pattern) h = absurd (inter_other slice.is_p 4 number h.0.0 (omega arith) h.1)
