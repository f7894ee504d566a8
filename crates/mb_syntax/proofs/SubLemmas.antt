-- Sub-macroblocks from their types, references and vectors.
use Rattle.std.proofs.Common.{◌≡◌, ℕ, zero, suc, ◌<◌, ◌≤◌, Bool, List, [], ◌∷◌, ◌++◌, length, get_or, map, drop, replicate, refl, sym, ap, ap₂, ◌∙◌, subst, arith, Option, Some, None}
use Rattle.std.proofs.lemmas.List.{length-drop, length-map}
use Rattle.std.proofs.lemmas.List.Elements.{All-cons, All-drop, All-get_or, All-head, All-map, All-nil, All-replicate, All-tail, All-weaker}
use Rattle.std.specs.List.{All, flat_map}
use Rattle.bit_io.specs.Codewords.{ue}
use Rattle.bit_io.specs.Reads.{BeginsNone, IsPrefixFree}
use Rattle.cavlc.specs.Parts.{Gives}
use Rattle.cavlc.specs.Turns.{AreInTurn}
use Rattle.cb_types.specs.declared.macroblock.Sub.{Sub}
use Rattle.mb_syntax.proofs.InterLemmas.{sub_kind_free, subs_of_free}
use Rattle.mb_syntax.proofs.Lists.{list_free}
use Rattle.mb_syntax.proofs.Pairs.{Made, both_free, made_free, none_first, none_made, none_second}
use Rattle.mb_syntax.proofs.PartLemmas.{references_free}
use Rattle.mb_syntax.proofs.Steps.{joined}
use Rattle.mb_syntax.specs.KindSteps.{AreDeltas, AreSo, AreSubsOf, IsNextSub, IsSubKind, behind_sub, first_subs_bits, subs_bits}
use Rattle.mb_syntax.specs.Prediction.{IsFirstSub, IsReference, IsSub, reference_bits, sub_kind_bits, sub_reference_bits, sub_vector_bits}
use Rattle.mb_syntax.specs.declared.slice.Slice.{Slice}

pub flat_map-map : {X Y : Type 0} (f : Y → List Bool) (g : X → Y) (xs : List X) → flat_map f (map g xs) ≡ flat_map (λ x. f (g x)) xs
flat_map-map f g [] = refl
flat_map-map f g (x ∷ xs) = ap (λ (y : List Bool). f (g x) ++ y) (flat_map-map f g xs)

abbrev kind_of : Sub → ℕ
kind_of sub = sub.kind

abbrev reference_of : Sub → ℕ
reference_of sub = sub.reference

-- what each of these sub-macroblocks is, where the references are of this kind
pub record IsSubOf (IsR : ℕ → Type 0) (sub : Sub) : Type 0 where
  pub kind : IsSubKind sub.kind
  pub reference : IsR sub.reference
  pub deltas : AreDeltas sub.kind sub.deltas

first_and_rest : (xs : List ℕ) → 0 < length xs → get_or xs 0 0 ∷ drop 1 xs ≡ xs
first_and_rest [] l = absurd (omega (arith, l))
first_and_rest (x ∷ xs) l = refl

none_left : (xs : List ℕ) → length xs ≡ 0 → [] ≡ xs
none_left [] l = refl
none_left (x ∷ xs) l = absurd (omega (arith, l))

-- The sub-macroblocks have these types and references.
pub kinds_are : (subs : List Sub) (kinds references : List ℕ) → length kinds ≡ length subs → length references ≡ length subs → AreInTurn IsNextSub behind_sub (kinds, references) subs
    → (map kind_of subs ≡ kinds) × (map reference_of subs ≡ references)
unfolding AreInTurn
kinds_are [] kinds references l m h = (none_left kinds l, none_left references m)
kinds_are (sub ∷ subs) kinds references l m h =
    let rest = kinds_are subs (drop 1 kinds) (drop 1 references) (omega (arith, length-drop 1 kinds, l)) (omega (arith, length-drop 1 references, m)) h.1 in
    (ap₂ (λ (x : ℕ) (xs : List ℕ). x ∷ xs) h.0.kind rest.0 ∙ first_and_rest kinds (omega (arith, l)), ap₂ (λ (x : ℕ) (xs : List ℕ). x ∷ xs) h.0.reference rest.1 ∙ first_and_rest references (omega (arith, m)))

pub subs_are : (IsR : ℕ → Type 0) (subs : List Sub) (kinds references : List ℕ) → length kinds ≡ length subs → length references ≡ length subs → All IsSubKind kinds → All IsR references
    → AreInTurn IsNextSub behind_sub (kinds, references) subs → All (IsSubOf IsR) subs
unfolding AreInTurn
subs_are IsR [] kinds references l m ks rs h = All-nil (IsSubOf IsR)
subs_are IsR (sub ∷ subs) kinds references l m ks rs h =
    let rest = subs_are IsR subs (drop 1 kinds) (drop 1 references) (omega (arith, length-drop 1 kinds, l)) (omega (arith, length-drop 1 references, m))
    (All-drop IsSubKind 1 kinds ks) (All-drop IsR 1 references rs) h.1 in
    let here : IsSubOf IsR sub = record {
      kind = subst (λ (x : ℕ). IsSubKind x) (sym h.0.kind) (All-get_or IsSubKind kinds 0 0 (omega (arith, l)) ks);
      reference = subst (λ (x : ℕ). IsR x) (sym h.0.reference) (All-get_or IsR references 0 0 (omega (arith, m)) rs);
      deltas = h.0.deltas;
    } in
    All-cons (IsSubOf IsR) sub subs here rest

-- Sub-macroblocks are in turn those of their own types and references.
pub subs_in_turn : (IsR : ℕ → Type 0) (subs : List Sub) (references : List ℕ) → map reference_of subs ≡ references → All (IsSubOf IsR) subs → AreInTurn IsNextSub behind_sub (map kind_of subs, references) subs
unfolding AreInTurn
subs_in_turn IsR [] references e h = tt
subs_in_turn IsR (sub ∷ subs) references e h =
    let first = All-head (IsSubOf IsR) sub subs h in
    let here : IsNextSub (map kind_of (sub ∷ subs), references) sub = record { kind = refl; reference = ap (λ (x : List ℕ). get_or x 0 0) e; deltas = first.deltas } in
    (here, subs_in_turn IsR subs (drop 1 references) (ap (λ (x : List ℕ). drop 1 x) e) (All-tail (IsSubOf IsR) sub subs h))

its_kinds : (IsR : ℕ → Type 0) (subs : List Sub) → All (IsSubOf IsR) subs → All IsSubKind (map kind_of subs)
its_kinds IsR subs h = All-map IsSubKind kind_of subs (All-weaker (IsSubOf IsR) (λ sub. IsSubKind sub.kind) (λ sub is. is.kind) subs h)

its_references : (IsR : ℕ → Type 0) (subs : List Sub) → All (IsSubOf IsR) subs → All IsR (map reference_of subs)
its_references IsR subs h = All-map IsR reference_of subs (All-weaker (IsSubOf IsR) (λ sub. IsR sub.reference) (λ sub is. is.reference) subs h)

of_sub : (slice : Slice) (sub : Sub) → IsSub slice sub → IsSubOf (IsReference slice) sub
of_sub slice sub h = record { kind = h.kind; reference = h.reference; deltas = record { size = h.size; spelled = h.spelled; others = h.others } }

to_sub : (slice : Slice) (sub : Sub) → IsSubOf (IsReference slice) sub → IsSub slice sub
to_sub slice sub h = record { kind = h.kind; reference = h.reference; size = h.deltas.size; spelled = h.deltas.spelled; others = h.deltas.others }

abbrev IsNone : ℕ → Type 0
IsNone reference = reference ≡ 0

of_first : (slice : Slice) (sub : Sub) → IsFirstSub slice sub → IsSubOf IsNone sub
of_first slice sub h = record { kind = h.spelling.kind; reference = h.first; deltas = record { size = h.spelling.size; spelled = h.spelling.spelled; others = h.spelling.others } }

to_first : (slice : Slice) → 1 ≤ slice.active → (sub : Sub) → IsSubOf IsNone sub → IsFirstSub slice sub
to_first slice some sub h =
    let e : sub.reference ≡ 0 = h.reference in
    let within : IsReference slice sub.reference = omega (arith, e, some) in
    record { spelling = record { kind = h.kind; reference = within; size = h.deltas.size; spelled = h.deltas.spelled; others = h.deltas.others }; first = e }

-- ---- P_8x8

abbrev AreKindsReferences : Slice → List ℕ × List ℕ → Type 0
AreKindsReferences slice p = AreSo IsSubKind 4 p.0 × AreSo (IsReference slice) 4 p.1

abbrev kinds_references_bits : Slice → List ℕ × List ℕ → List Bool
kinds_references_bits slice p = flat_map ue p.0 ++ flat_map (reference_bits slice) p.1

abbrev AreAll : Slice → (List ℕ × List ℕ) × List Sub → Type 0
AreAll slice p = AreKindsReferences slice p.0 × AreSubsOf p.0.0 p.0.1 p.1

abbrev all_bits : Slice → (List ℕ × List ℕ) × List Sub → List Bool
all_bits slice p = kinds_references_bits slice p.0 ++ flat_map sub_vector_bits p.1

abbrev make_subs : (List ℕ × List ℕ) × List Sub → List Sub
make_subs p = p.1

split_subs : (slice : Slice) (subs : List Sub) → AreSo (IsSub slice) 4 subs → Made (AreAll slice) (all_bits slice) make_subs subs (subs_bits slice subs)
split_subs slice subs h =
    let each = All-weaker (IsSub slice) (IsSubOf (IsReference slice)) (of_sub slice) subs h.1 in
    record {
      parts = ((map kind_of subs, map reference_of subs), subs);
      are = (
        ((length-map subs kind_of ∙ h.0, its_kinds (IsReference slice) subs each), (length-map subs reference_of ∙ h.0, its_references (IsReference slice) subs each)),
        (h.0, subs_in_turn (IsReference slice) subs (map reference_of subs) refl each),
      );
      same = refl;
      spelled = ap₂ (λ (xs ys : List Bool). (xs ++ ys) ++ flat_map sub_vector_bits subs) (sym (flat_map-map ue kind_of subs)) (sym (flat_map-map (reference_bits slice) reference_of subs));
    }

sub_kinds_free : IsPrefixFree (AreSo IsSubKind 4) (flat_map ue)
sub_kinds_free = list_free IsSubKind ue sub_kind_free 4

kinds_references_free : (slice : Slice) → slice.active ≤ 16 → IsPrefixFree (AreKindsReferences slice) (kinds_references_bits slice)
kinds_references_free slice few = both_free (AreSo IsSubKind 4) (flat_map ue) (λ kinds. AreSo (IsReference slice) 4) (λ kinds. flat_map (reference_bits slice)) sub_kinds_free (λ kinds h. references_free slice 4 few)

pub subs_free : (slice : Slice) → slice.active ≤ 16 → IsPrefixFree (AreSo (IsSub slice) 4) (subs_bits slice)
subs_free slice few = made_free (AreSo (IsSub slice) 4) (subs_bits slice) (AreAll slice) (all_bits slice) make_subs (split_subs slice)
    (both_free (AreKindsReferences slice) (kinds_references_bits slice) (λ p. AreSubsOf p.0 p.1) (λ p. flat_map sub_vector_bits) (kinds_references_free slice few) (λ p h. subs_of_free p.0 p.1))

subs_none : (slice : Slice) (old : List Bool) → BeginsNone (AreAll slice) (all_bits slice) old → BeginsNone (AreSo (IsSub slice) 4) (subs_bits slice) old
subs_none slice old none = none_made (AreSo (IsSub slice) 4) (subs_bits slice) (AreAll slice) (all_bits slice) make_subs (split_subs slice) old none

pub no_kinds : (slice : Slice) (old : List Bool) → BeginsNone (AreSo IsSubKind 4) (flat_map ue) old → BeginsNone (AreSo (IsSub slice) 4) (subs_bits slice) old
no_kinds slice old none = subs_none slice old
    (none_first (AreKindsReferences slice) (kinds_references_bits slice) (λ p. AreSubsOf p.0 p.1) (λ p. flat_map sub_vector_bits) old
    (none_first (AreSo IsSubKind 4) (flat_map ue) (λ kinds. AreSo (IsReference slice) 4) (λ kinds. flat_map (reference_bits slice)) old none))

pub no_sub_references : (slice : Slice) (kinds : List ℕ) (old mid : List Bool) → AreSo IsSubKind 4 kinds → old ≡ flat_map ue kinds ++ mid → BeginsNone (AreSo (IsReference slice) 4) (flat_map (reference_bits slice)) mid
    → BeginsNone (AreSo (IsSub slice) 4) (subs_bits slice) old
no_sub_references slice kinds old mid is e none = subs_none slice old
    (none_first (AreKindsReferences slice) (kinds_references_bits slice) (λ p. AreSubsOf p.0 p.1) (λ p. flat_map sub_vector_bits) old
    (none_second (AreSo IsSubKind 4) (flat_map ue) (λ k. AreSo (IsReference slice) 4) (λ k. flat_map (reference_bits slice)) sub_kinds_free kinds old mid is e none))

pub subs_read : (slice : Slice) (kinds references : List ℕ) (old first second new : List Bool) (result : Option (List Sub)) → slice.active ≤ 16 → AreSo IsSubKind 4 kinds → old ≡ flat_map ue kinds ++ first
    → AreSo (IsReference slice) 4 references → first ≡ flat_map (reference_bits slice) references ++ second
    → Gives (AreSubsOf kinds references) (flat_map sub_vector_bits) second result new → Gives (AreSo (IsSub slice) 4) (subs_bits slice) old result new
subs_read slice kinds references old first second new None few ks e rs f none = subs_none slice old
    (none_second (AreKindsReferences slice) (kinds_references_bits slice) (λ p. AreSubsOf p.0 p.1) (λ p. flat_map sub_vector_bits) (kinds_references_free slice few) (kinds, references) old second (ks, rs)
    (joined old first second (flat_map ue kinds) (flat_map (reference_bits slice) references) e f) none)
subs_read slice kinds references old first second new (Some subs) few ks e rs f (is, g) =
    let each = subs_are (IsReference slice) subs kinds references (ks.0 ∙ sym is.0) (rs.0 ∙ sym is.0) ks.1 rs.1 is.1 in
    let are = kinds_are subs kinds references (ks.0 ∙ sym is.0) (rs.0 ∙ sym is.0) is.1 in
    let bits = joined old second new (flat_map ue kinds ++ flat_map (reference_bits slice) references) (flat_map sub_vector_bits subs) (joined old first second (flat_map ue kinds) (flat_map (reference_bits slice) references) e f) g in
    let k : flat_map ue kinds ≡ flat_map sub_kind_bits subs = ap (flat_map ue) (sym are.0) ∙ flat_map-map ue kind_of subs in
    let r : flat_map (reference_bits slice) references ≡ flat_map (sub_reference_bits slice) subs = ap (flat_map (reference_bits slice)) (sym are.1) ∙ flat_map-map (reference_bits slice) reference_of subs in
    ((is.0, All-weaker (IsSubOf (IsReference slice)) (IsSub slice) (to_sub slice) subs each), bits ∙ ap₂ (λ (xs ys : List Bool). ((xs ++ ys) ++ flat_map sub_vector_bits subs) ++ new) k r)

-- ---- P_8x8ref0

abbrev zeros : List ℕ
zeros = 0 ∷ 0 ∷ 0 ∷ 0 ∷ []

zeros_are : All IsNone zeros
zeros_are = All-replicate IsNone 4 0 refl

all_zeros : (n : ℕ) (xs : List ℕ) → length xs ≡ n → All IsNone xs → xs ≡ replicate n 0
all_zeros zero [] l h = refl
all_zeros (suc n) [] l h = absurd (omega (arith, l))
all_zeros zero (x ∷ xs) l h = absurd (omega (arith, l))
all_zeros (suc n) (x ∷ xs) l h = ap₂ (λ (y : ℕ) (ys : List ℕ). y ∷ ys) (All-head IsNone x xs h) (all_zeros n xs (omega (arith, l)) (All-tail IsNone x xs h))

abbrev AreFirst : List ℕ × List Sub → Type 0
AreFirst p = AreSo IsSubKind 4 p.0 × AreSubsOf p.0 zeros p.1

abbrev first_bits : List ℕ × List Sub → List Bool
first_bits p = flat_map ue p.0 ++ flat_map sub_vector_bits p.1

abbrev make_first : List ℕ × List Sub → List Sub
make_first p = p.1

split_first : (slice : Slice) (subs : List Sub) → AreSo (IsFirstSub slice) 4 subs → Made AreFirst first_bits make_first subs (first_subs_bits subs)
split_first slice subs h =
    let each = All-weaker (IsFirstSub slice) (IsSubOf IsNone) (of_first slice) subs h.1 in
    let none = all_zeros 4 (map reference_of subs) (length-map subs reference_of ∙ h.0) (its_references IsNone subs each) in
    record {
      parts = (map kind_of subs, subs);
      are = ((length-map subs kind_of ∙ h.0, its_kinds IsNone subs each), (h.0, subs_in_turn IsNone subs zeros none each));
      same = refl;
      spelled = ap (λ (xs : List Bool). xs ++ flat_map sub_vector_bits subs) (sym (flat_map-map ue kind_of subs));
    }

pub first_subs_free : (slice : Slice) → IsPrefixFree (AreSo (IsFirstSub slice) 4) first_subs_bits
first_subs_free slice = made_free (AreSo (IsFirstSub slice) 4) first_subs_bits AreFirst first_bits make_first (split_first slice)
    (both_free (AreSo IsSubKind 4) (flat_map ue) (λ kinds. AreSubsOf kinds zeros) (λ kinds. flat_map sub_vector_bits) sub_kinds_free (λ kinds h. subs_of_free kinds zeros))

first_none : (slice : Slice) (old : List Bool) → BeginsNone AreFirst first_bits old → BeginsNone (AreSo (IsFirstSub slice) 4) first_subs_bits old
first_none slice old none = none_made (AreSo (IsFirstSub slice) 4) first_subs_bits AreFirst first_bits make_first (split_first slice) old none

pub no_first_kinds : (slice : Slice) (old : List Bool) → BeginsNone (AreSo IsSubKind 4) (flat_map ue) old → BeginsNone (AreSo (IsFirstSub slice) 4) first_subs_bits old
no_first_kinds slice old none = first_none slice old (none_first (AreSo IsSubKind 4) (flat_map ue) (λ kinds. AreSubsOf kinds zeros) (λ kinds. flat_map sub_vector_bits) old none)

pub first_subs_read : (slice : Slice) (kinds : List ℕ) (old mid new : List Bool) (result : Option (List Sub)) → 1 ≤ slice.active → AreSo IsSubKind 4 kinds → old ≡ flat_map ue kinds ++ mid
    → Gives (AreSubsOf kinds zeros) (flat_map sub_vector_bits) mid result new → Gives (AreSo (IsFirstSub slice) 4) first_subs_bits old result new
first_subs_read slice kinds old mid new None some ks e none = first_none slice old
    (none_second (AreSo IsSubKind 4) (flat_map ue) (λ k. AreSubsOf k zeros) (λ k. flat_map sub_vector_bits) sub_kinds_free kinds old mid ks e none)
first_subs_read slice kinds old mid new (Some subs) some ks e (is, g) =
    let each = subs_are IsNone subs kinds zeros (ks.0 ∙ sym is.0) (sym is.0) ks.1 zeros_are is.1 in
    let are = kinds_are subs kinds zeros (ks.0 ∙ sym is.0) (sym is.0) is.1 in
    let bits = joined old mid new (flat_map ue kinds) (flat_map sub_vector_bits subs) e g in
    let k : flat_map ue kinds ≡ flat_map sub_kind_bits subs = ap (flat_map ue) (sym are.0) ∙ flat_map-map ue kind_of subs in
    ((is.0, All-weaker (IsSubOf IsNone) (IsFirstSub slice) (to_first slice some) subs each), bits ∙ ap (λ (xs : List Bool). (xs ++ flat_map sub_vector_bits subs) ++ new) k)
