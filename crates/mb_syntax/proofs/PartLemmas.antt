-- Macroblock partitions and sub-macroblocks from what is spelled of them.
use Rattle.std.proofs.Common.{◌≡◌, ℕ, ◌<◌, ◌≤◌, Bool, List, [], ◌∷◌, ◌++◌, length, get_or, refl, ap, ap₂, ◌∙◌, arith, pos}
use Rattle.std.proofs.lemmas.List.Elements.{All-cons, All-get_or, All-head, All-nil, All-tail}
use Rattle.std.specs.List.{flat_map}
use Rattle.bit_io.specs.Reads.{BeginsNone, IsPrefixFree}
use Rattle.cb_types.specs.declared.macroblock.Part.{Part}
use Rattle.cb_types.specs.declared.macroblock.Vector.{Vector}
use Rattle.mb_syntax.proofs.InterLemmas.{reference_free, vector_free}
use Rattle.mb_syntax.proofs.Lists.{list_free}
use Rattle.mb_syntax.proofs.Pairs.{Made, both_free, made_free, none_first, none_made, none_second}
use Rattle.mb_syntax.proofs.Steps.{joined}
use Rattle.mb_syntax.specs.KindSteps.{AreSo, parts_bits}
use Rattle.mb_syntax.specs.Prediction.{IsPart, IsReference, IsVector, part_reference_bits, part_vector_bits, reference_bits, vector_bits}
use Rattle.mb_syntax.specs.declared.slice.Slice.{Slice}

-- ---- partitions

abbrev zero_vector : Vector
zero_vector = record { x = pos 0; y = pos 0 }

abbrev pub part_at : List ℕ × List Vector → ℕ → Part
part_at p i = record { reference = get_or p.0 i 0; delta = get_or p.1 i zero_vector }

abbrev pub make_parts : List ℕ × List Vector → List Part
make_parts p = part_at p 0 ∷ part_at p 1 ∷ []

abbrev ArePartsOf : Slice → List ℕ × List Vector → Type 0
ArePartsOf slice p = AreSo (IsReference slice) 2 p.0 × AreSo IsVector 2 p.1

abbrev parts_of_bits : Slice → List ℕ × List Vector → List Bool
parts_of_bits slice p = flat_map (reference_bits slice) p.0 ++ flat_map vector_bits p.1

split_parts : (slice : Slice) (parts : List Part) → AreSo (IsPart slice) 2 parts → Made (ArePartsOf slice) (parts_of_bits slice) make_parts parts (parts_bits slice parts)
split_parts slice [] h = absurd (omega (arith, h.0))
split_parts slice (a ∷ []) h = absurd (omega (arith, h.0))
split_parts slice (a ∷ b ∷ c ∷ more) h = absurd (omega (arith, h.0))
split_parts slice (a ∷ b ∷ []) h =
    let first : IsPart slice a = All-head (IsPart slice) a (b ∷ []) h.1 in
    let second : IsPart slice b = All-head (IsPart slice) b [] (All-tail (IsPart slice) a (b ∷ []) h.1) in
    record {
      parts = (a.reference ∷ b.reference ∷ [], a.delta ∷ b.delta ∷ []);
      are = (
        (refl, All-cons (IsReference slice) a.reference (b.reference ∷ []) first.reference (All-cons (IsReference slice) b.reference [] second.reference (All-nil (IsReference slice)))),
        (refl, All-cons IsVector a.delta (b.delta ∷ []) first.delta (All-cons IsVector b.delta [] second.delta (All-nil IsVector))),
      );
      same = refl;
      spelled = refl;
    }

pub references_free : (slice : Slice) (n : ℕ) → slice.active ≤ 16 → IsPrefixFree (AreSo (IsReference slice) n) (flat_map (reference_bits slice))
references_free slice n few = list_free (IsReference slice) (reference_bits slice) (reference_free slice few) n

pub parts_free : (slice : Slice) → slice.active ≤ 16 → IsPrefixFree (AreSo (IsPart slice) 2) (parts_bits slice)
parts_free slice few = made_free (AreSo (IsPart slice) 2) (parts_bits slice) (ArePartsOf slice) (parts_of_bits slice) make_parts (split_parts slice)
    (both_free (AreSo (IsReference slice) 2) (flat_map (reference_bits slice)) (λ r. AreSo IsVector 2) (λ r. flat_map vector_bits) (references_free slice 2 few) (λ r h. list_free IsVector vector_bits vector_free 2))

pub no_references : (slice : Slice) (old : List Bool) → BeginsNone (AreSo (IsReference slice) 2) (flat_map (reference_bits slice)) old → BeginsNone (AreSo (IsPart slice) 2) (parts_bits slice) old
no_references slice old none = none_made (AreSo (IsPart slice) 2) (parts_bits slice) (ArePartsOf slice) (parts_of_bits slice) make_parts (split_parts slice) old
    (none_first (AreSo (IsReference slice) 2) (flat_map (reference_bits slice)) (λ r. AreSo IsVector 2) (λ r. flat_map vector_bits) old none)

pub no_vectors : (slice : Slice) (references : List ℕ) (old mid : List Bool) → slice.active ≤ 16 → AreSo (IsReference slice) 2 references → old ≡ flat_map (reference_bits slice) references ++ mid
    → BeginsNone (AreSo IsVector 2) (flat_map vector_bits) mid → BeginsNone (AreSo (IsPart slice) 2) (parts_bits slice) old
no_vectors slice references old mid few is e none = none_made (AreSo (IsPart slice) 2) (parts_bits slice) (ArePartsOf slice) (parts_of_bits slice) make_parts (split_parts slice) old
    (none_second (AreSo (IsReference slice) 2) (flat_map (reference_bits slice)) (λ r. AreSo IsVector 2) (λ r. flat_map vector_bits) (references_free slice 2 few) references old mid is e none)

two_are : {V : Type 0} (xs : List V) (d : V) → length xs ≡ 2 → xs ≡ get_or xs 0 d ∷ get_or xs 1 d ∷ []
two_are [] d l = absurd (omega (arith, l))
two_are (a ∷ []) d l = absurd (omega (arith, l))
two_are (a ∷ b ∷ []) d l = refl
two_are (a ∷ b ∷ c ∷ more) d l = absurd (omega (arith, l))

pub parts_read : (slice : Slice) (references : List ℕ) (deltas : List Vector) (old mid new : List Bool) → AreSo (IsReference slice) 2 references → old ≡ flat_map (reference_bits slice) references ++ mid
    → AreSo IsVector 2 deltas → mid ≡ flat_map vector_bits deltas ++ new
    → AreSo (IsPart slice) 2 (make_parts (references, deltas)) × (old ≡ parts_bits slice (make_parts (references, deltas)) ++ new)
parts_read slice references deltas old mid new rs e ds f =
    let at = (λ (i : ℕ) (below : i < 2). let part : IsPart slice (part_at (references, deltas) i) = record {
      reference = All-get_or (IsReference slice) references i 0 (omega (arith, rs.0, below)) rs.1;
      delta = All-get_or IsVector deltas i zero_vector (omega (arith, ds.0, below)) ds.1;
    } in part) in
    let both = joined old mid new (flat_map (reference_bits slice) references) (flat_map vector_bits deltas) e f in
    let same_references : flat_map (reference_bits slice) references ≡ flat_map (part_reference_bits slice) (make_parts (references, deltas)) = ap (flat_map (reference_bits slice)) (two_are references 0 rs.0) in
    let same_vectors : flat_map vector_bits deltas ≡ flat_map part_vector_bits (make_parts (references, deltas)) = ap (flat_map vector_bits) (two_are deltas zero_vector ds.0) in (
      (refl, All-cons (IsPart slice) (part_at (references, deltas) 0) (part_at (references, deltas) 1 ∷ []) (at 0 (omega arith)) (All-cons (IsPart slice) (part_at (references, deltas) 1) [] (at 1 (omega arith)) (All-nil (IsPart slice)))),
      both ∙ ap₂ (λ (xs ys : List Bool). (xs ++ ys) ++ new) same_references same_vectors,
    )
