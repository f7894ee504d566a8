-- The kinds of macroblocks that have a spelling are few.
use Rattle.std.proofs.Common.{◌≡◌, ℕ, ◌/◌, ◌%◌, ◌^◌, ◌<◌, ◌≤◌, ◌⊎◌, inl, inr, true, List, ◌++◌, length, take, drop, refl, sym, subst, arith, ℤ, pos, unsigned_abs}
use Rattle.std.specs.List.{All}
use Rattle.std.proofs.lemmas.List.{take-append-drop}
use Rattle.std.proofs.lemmas.List.Elements.{All-append, All-same, All-weaker}
use Rattle.bit_io.specs.Codewords.{IsSe}
use Rattle.cb_types.specs.declared.macroblock.MbKind.{MbKind}
use Rattle.cb_types.specs.declared.macroblock.MbKind.TheVariants.{Skip, Pcm, Intra4, Intra16, Whole, Wide, Tall, Four, FourFirst}
use Rattle.cb_types.specs.declared.macroblock.Mode.{Mode}
use Rattle.cb_types.specs.declared.macroblock.Mode.TheVariants.{Predicted, Remaining}
use Rattle.cb_types.specs.declared.macroblock.Part.{Part}
use Rattle.cb_types.specs.declared.macroblock.Sub.{Sub}
use Rattle.cb_types.specs.declared.macroblock.Vector.{Vector}
use Rattle.finite.specs.Decided.{Decided}
use Rattle.finite.specs.Finite.{Finite}
use Rattle.finite.proofs.Deciding.{both, decided_as, either}
use Rattle.finite.proofs.Equal.{at_most, below, equal_booleans, equal_integers, equal_numbers}
use Rattle.finite.proofs.Lists.{each_of, lists_of}
use Rattle.finite.proofs.Numbers.{integers_below, numbers_below, numbers_up_to}
use Rattle.finite.proofs.Sets.{formed, formless, narrower, onto, pairs, same}
use Rattle.mb_syntax.specs.Kinds.{sub_parts}
use Rattle.mb_syntax.specs.Prediction.{AreModes, AreParts, IsFirstSub, IsIntra16, IsKind, IsMode, IsPart, IsReference, IsSub, IsVector, IsZeroVector}
use Rattle.mb_syntax.specs.declared.slice.Slice.{Slice}

-- ---- what kinds are made of

vectors_few : Finite IsVector
vectors_few = onto IsVector (λ (pair : ℤ × ℤ). let vector : Vector = record { x = pair.0; y = pair.1 } in vector)
    (pairs (integers_below (2 ^ 31)) (λ x h. integers_below (2 ^ 31)))
    (λ pair h. record { x = h.0; y = h.1 }) (λ vector h. ((vector.x, vector.y), (h.x, h.y), refl))

references_few : (slice : Slice) → Finite (IsReference slice)
references_few slice = numbers_below slice.active

parts_few : (slice : Slice) → Finite (IsPart slice)
parts_few slice = onto (IsPart slice) (λ (pair : ℕ × Vector). let part : Part = record { reference = pair.0; delta = pair.1 } in part)
    (pairs (references_few slice) (λ reference h. vectors_few))
    (λ pair h. record { reference = h.0; delta = h.1 }) (λ part h. ((part.reference, part.delta), (h.reference, h.delta), refl))

modes_few : Finite IsMode
modes_few = record {
  find = λ Q each. decided_as (together Q) (λ found. parted Q found.0 found.1 found.2)
      (either (each Predicted tt) ((numbers_below 8).find (λ mode. Q (Remaining mode)) (λ mode h. each (Remaining mode) h)));
}
  where
    together : (Q : Mode → Type 0) → Q Predicted ⊎ ((mode : ℕ) × (mode < 8) × Q (Remaining mode)) → (mode : Mode) × IsMode mode × Q mode
    together Q (inl q) = (Predicted, tt, q)
    together Q (inr found) = (Remaining found.0, found.1, found.2)

    parted : (Q : Mode → Type 0) (mode : Mode) → IsMode mode → Q mode → Q Predicted ⊎ ((mode : ℕ) × (mode < 8) × Q (Remaining mode))
    parted Q Predicted h q = inl q
    parted Q (Remaining mode) h q = inr (mode, h, q)

zero_decided : (vector : Vector) → Decided (IsZeroVector vector)
zero_decided vector = both (equal_integers vector.x (pos 0)) (λ h. equal_integers vector.y (pos 0))

vector_decided : (vector : Vector) → Decided (IsVector vector)
vector_decided vector = decided_as (λ h. record { x = h.0; y = h.1 }) (λ h. (h.x, h.y))
    (both (below (unsigned_abs vector.x) (2 ^ 31)) (λ h. below (unsigned_abs vector.y) (2 ^ 31)))

zero_is_vector : (vector : Vector) → IsZeroVector vector → IsVector vector
zero_is_vector vector h = record { x = subst IsSe (sym h.0) zero_is; y = subst IsSe (sym h.1) zero_is }
  where
    zero_is : IsSe (pos 0)
    zero_is = omega arith

-- a sub-macroblock, but for which of its vectors are spelled
pub record IsNearSub (slice : Slice) (sub : Sub) : Type 0 where
  pub kind : sub.kind ≤ 3
  pub reference : IsReference slice sub.reference
  pub size : length sub.deltas ≡ 4
  pub vectors : All IsVector sub.deltas

near_subs_few : (slice : Slice) → Finite (IsNearSub slice)
near_subs_few slice = onto (IsNearSub slice)
    (λ (t : ℕ × (ℕ × List Vector)). let sub : Sub = record { reference = t.1.0; kind = t.0; deltas = t.1.1 } in sub)
    (pairs (numbers_up_to 3) (λ kind h. pairs (references_few slice) (λ reference h. lists_of IsVector vectors_few 4)))
    (λ t h. record { kind = h.0; reference = h.1.0; size = h.1.1.0; vectors = h.1.1.1 })
    (λ sub h. ((sub.kind, (sub.reference, sub.deltas)), (h.kind, (h.reference, (h.size, h.vectors))), refl))

all_vectors : (n : ℕ) (deltas : List Vector) → All IsVector (take n deltas) → All IsZeroVector (drop n deltas) → All IsVector deltas
all_vectors n deltas spelled others =
    All-same IsVector deltas (take n deltas ++ drop n deltas) (sym (take-append-drop n deltas))
    (All-append IsVector (take n deltas) (drop n deltas) spelled (All-weaker IsZeroVector IsVector zero_is_vector (drop n deltas) others))

subs_few : (slice : Slice) → Finite (IsSub slice)
subs_few slice = narrower (IsSub slice) (near_subs_few slice)
    (λ sub near. decided_as
    (λ h. record { kind = near.kind; reference = near.reference; size = near.size; spelled = h.0; others = h.1 })
    (λ h. (h.spelled, h.others))
    (both (each_of IsVector (take (sub_parts sub.kind) sub.deltas) vector_decided)
    (λ h. each_of IsZeroVector (drop (sub_parts sub.kind) sub.deltas) zero_decided)))
    (λ sub h. record { kind = h.kind; reference = h.reference; size = h.size; vectors = all_vectors (sub_parts sub.kind) sub.deltas h.spelled h.others })

first_subs_few : (slice : Slice) → Finite (IsFirstSub slice)
first_subs_few slice = narrower (IsFirstSub slice) (subs_few slice)
    (λ sub is. decided_as (λ e. record { spelling = is; first = e }) (λ h. h.first) (equal_numbers sub.reference 0))
    (λ sub h. h.spelling)

-- ---- what each form of a kind holds

pcm : List ℕ → MbKind
pcm samples = Pcm samples

abbrev intra4 : List Mode × (ℕ × ℕ) → MbKind
intra4 t = Intra4 t.0 t.1.0 t.1.1

abbrev intra16 : ℕ × (ℕ × ℕ) → MbKind
intra16 t = Intra16 t.0 t.1.0 t.1.1

abbrev whole : Part × ℕ → MbKind
whole t = Whole t.0 t.1

abbrev wide : List Part × ℕ → MbKind
wide t = Wide t.0 t.1

abbrev tall : List Part × ℕ → MbKind
tall t = Tall t.0 t.1

abbrev four : List Sub × ℕ → MbKind
four t = Four t.0 t.1

abbrev four_first : List Sub × ℕ → MbKind
four_first t = FourFirst t.0 t.1

modes_lists : Finite AreModes
modes_lists = lists_of IsMode modes_few 16

intra4_few : (slice : Slice) → Finite (λ (t : List Mode × (ℕ × ℕ)). IsKind slice (intra4 t))
intra4_few slice = same (λ (t : List Mode × (ℕ × ℕ)). IsKind slice (intra4 t))
    (pairs modes_lists (λ modes h. pairs (numbers_up_to 3) (λ chroma h. numbers_up_to 47)))
    (λ t h. (h.0, h.1.0, h.1.1)) (λ t h. (h.0, (h.1, h.2)))

pattern_few : (mode chroma pattern : ℕ) → IsIntra16 mode chroma pattern → pattern ≤ 47
pattern_few mode chroma pattern h =
    let high : pattern / 16 ≤ 2 = h.chroma_pattern in omega arith

intra16_few : (slice : Slice) → Finite (λ (t : ℕ × (ℕ × ℕ)). IsKind slice (intra16 t))
intra16_few slice = narrower (λ (t : ℕ × (ℕ × ℕ)). IsKind slice (intra16 t))
    (pairs (numbers_up_to 3) (λ mode h. pairs (numbers_up_to 3) (λ chroma h. numbers_up_to 47)))
    (λ t h. decided_as (λ p. record { of_mode = h.0; of_chroma = h.1.0; luma = p.0; chroma_pattern = p.1 }) (λ k. (k.luma, k.chroma_pattern))
    (both (either (equal_numbers (t.1.1 % 16) 0) (equal_numbers (t.1.1 % 16) 15)) (λ k. at_most (t.1.1 / 16) 2)))
    (λ t h. (h.of_mode, (h.of_chroma, pattern_few t.0 t.1.0 t.1.1 h)))

-- inter kinds stand in P slices alone
inter_few : {A : Type 0} (slice : Slice) (P : A × ℕ → Type 0) → Finite P → Finite (λ (t : A × ℕ). (slice.is_p ≡ true) × P t)
inter_few slice P finite = narrower (λ t. (slice.is_p ≡ true) × P t) finite
    (λ t p. decided_as (λ e. (e, p)) (λ h. h.0) (equal_booleans slice.is_p true)) (λ t h. h.1)

whole_few : (slice : Slice) → Finite (λ (t : Part × ℕ). IsKind slice (whole t))
whole_few slice = same (λ (t : Part × ℕ). IsKind slice (whole t))
    (inter_few slice (λ (t : Part × ℕ). IsPart slice t.0 × (t.1 ≤ 47)) (pairs (parts_few slice) (λ part h. numbers_up_to 47)))
    (λ t h. (h.0, h.1.0, h.1.1)) (λ t h. (h.0, (h.1, h.2)))

two_parts_few : (slice : Slice) → Finite (λ (t : List Part × ℕ). (slice.is_p ≡ true) × AreParts slice t.0 t.1)
two_parts_few slice = inter_few slice (λ (t : List Part × ℕ). AreParts slice t.0 t.1)
    (same (λ (t : List Part × ℕ). AreParts slice t.0 t.1) (pairs (lists_of (IsPart slice) (parts_few slice) 2) (λ parts h. numbers_up_to 47))
    (λ t h. record { size = h.0.0; each = h.0.1; of_pattern = h.1 }) (λ t h. ((h.size, h.each), h.of_pattern)))

four_subs_few : (slice : Slice) (P : Sub → Type 0) → Finite P
    → Finite (λ (t : List Sub × ℕ). (slice.is_p ≡ true) × (length t.0 ≡ 4) × All P t.0 × (t.1 ≤ 47))
four_subs_few slice P finite = same (λ (t : List Sub × ℕ). (slice.is_p ≡ true) × (length t.0 ≡ 4) × All P t.0 × (t.1 ≤ 47))
    (inter_few slice (λ (t : List Sub × ℕ). ((length t.0 ≡ 4) × All P t.0) × (t.1 ≤ 47)) (pairs (lists_of P finite 4) (λ subs h. numbers_up_to 47)))
    (λ t h. (h.0, h.1.0.0, h.1.0.1, h.1.1)) (λ t h. (h.0, ((h.1, h.2), h.3)))

-- ---- the kinds

OneOf : MbKind → Type 0
OneOf kind =
    ((x : List ℕ) × (Pcm x ≡ kind)) ⊎ (((x : List Mode × (ℕ × ℕ)) × (intra4 x ≡ kind)) ⊎ (((x : ℕ × (ℕ × ℕ)) × (intra16 x ≡ kind))
    ⊎ (((x : Part × ℕ) × (whole x ≡ kind)) ⊎ (((x : List Part × ℕ) × (wide x ≡ kind)) ⊎ (((x : List Part × ℕ) × (tall x ≡ kind))
    ⊎ (((x : List Sub × ℕ) × (four x ≡ kind)) ⊎ (((x : List Sub × ℕ) × (four_first x ≡ kind)) ⊎ ⊥)))))))

one_of : (slice : Slice) (kind : MbKind) → IsKind slice kind → OneOf kind
unfolding OneOf
one_of slice Skip h = absurd h
one_of slice (Pcm samples) h = inl (samples, refl)
one_of slice (Intra4 modes chroma pattern) h = inr (inl ((modes, (chroma, pattern)), refl))
one_of slice (Intra16 mode chroma pattern) h = inr (inr (inl ((mode, (chroma, pattern)), refl)))
one_of slice (Whole part pattern) h = inr (inr (inr (inl ((part, pattern), refl))))
one_of slice (Wide parts pattern) h = inr (inr (inr (inr (inl ((parts, pattern), refl)))))
one_of slice (Tall parts pattern) h = inr (inr (inr (inr (inr (inl ((parts, pattern), refl))))))
one_of slice (Four subs pattern) h = inr (inr (inr (inr (inr (inr (inl ((subs, pattern), refl)))))))
one_of slice (FourFirst subs pattern) h = inr (inr (inr (inr (inr (inr (inr (inl ((subs, pattern), refl))))))))

forms_few : (slice : Slice) → Finite (λ (kind : MbKind). IsKind slice kind × OneOf kind)
unfolding OneOf
forms_few slice =
    formed (IsKind slice) (λ (x : List ℕ). Pcm x) (lists_of (λ (byte : ℕ). byte < 256) (numbers_below 256) 384)
    (formed (IsKind slice) intra4 (intra4_few slice)
    (formed (IsKind slice) intra16 (intra16_few slice)
    (formed (IsKind slice) whole (whole_few slice)
    (formed (IsKind slice) wide (two_parts_few slice)
    (formed (IsKind slice) tall (two_parts_few slice)
    (formed (IsKind slice) four (four_subs_few slice (IsSub slice) (subs_few slice))
    (formed (IsKind slice) four_first (four_subs_few slice (IsFirstSub slice) (first_subs_few slice))
    (formless (IsKind slice)))))))))

pub kinds_few : (slice : Slice) → Finite (IsKind slice)
kinds_few slice = same (IsKind slice) (forms_few slice) (λ kind h. h.0) (λ kind h. (h, one_of slice kind h))
