-- What the steps of reading and writing a macroblock's kind say.
use Rattle.std.specs.Prelude.{◌≡◌, ℕ, ◌≤◌, Bool, List, ◌++◌, All, length, take, drop, slice_index}
use Rattle.std.specs.List.{flat_map}
use Rattle.cavlc.specs.Turns.{AreInTurn}
use Rattle.cb_types.specs.declared.macroblock.Part.{Part}
use Rattle.cb_types.specs.declared.macroblock.Sub.{Sub}
use Rattle.cb_types.specs.declared.macroblock.Vector.{Vector}
use Rattle.mb_syntax.specs.Kinds.{sub_parts}
use Rattle.mb_syntax.specs.Prediction.{IsVector, IsZeroVector, part_reference_bits, part_vector_bits, sub_kind_bits, sub_reference_bits, sub_vector_bits, vector_bits}
use Rattle.mb_syntax.specs.declared.slice.Slice.{Slice}

-- so many of one kind
abbrev pub AreSo : {V : Type 0} → (V → Type 0) → ℕ → List V → Type 0
AreSo IsV n vs = (length vs ≡ n) × All IsV vs

-- ref_idx_l0 and mvd_l0 of two partitions
abbrev pub parts_bits : Slice → List Part → List Bool
parts_bits slice parts = flat_map (part_reference_bits slice) parts ++ flat_map part_vector_bits parts

abbrev pub IsSubKind : ℕ → Type 0
IsSubKind kind = kind ≤ 3

-- mvd_l0 of a sub-macroblock of this sub_mb_type: the vectors that the type doesn't have are 0
pub record AreDeltas (kind : ℕ) (deltas : List Vector) : Type 0 where
  pub size : length deltas ≡ 4
  pub spelled : All IsVector (take (sub_parts kind) deltas)
  pub others : All IsZeroVector (drop (sub_parts kind) deltas)

abbrev pub deltas_bits : ℕ → List Vector → List Bool
deltas_bits kind deltas = flat_map vector_bits (take (sub_parts kind) deltas)

-- The next sub-macroblock has the next of these types and of these references.
pub record IsNextSub (next : List ℕ × List ℕ) (sub : Sub) : Type 0 where
  pub kind : sub.kind ≡ slice_index next.0 0
  pub reference : sub.reference ≡ slice_index next.1 0
  pub deltas : AreDeltas sub.kind sub.deltas

abbrev pub behind_sub : List ℕ × List ℕ → Sub → List ℕ × List ℕ
behind_sub next sub = (drop 1 next.0, drop 1 next.1)

-- four sub-macroblocks of these types and these references
abbrev pub AreSubsOf : List ℕ → List ℕ → List Sub → Type 0
AreSubsOf kinds references subs = (length subs ≡ 4) × AreInTurn IsNextSub behind_sub (kinds, references) subs

-- sub_mb_type, ref_idx_l0 and mvd_l0 of sub-macroblocks
abbrev pub subs_bits : Slice → List Sub → List Bool
subs_bits slice subs = flat_map sub_kind_bits subs ++ flat_map (sub_reference_bits slice) subs ++ flat_map sub_vector_bits subs

-- the same where no reference is spelled
abbrev pub first_subs_bits : List Sub → List Bool
first_subs_bits subs = flat_map sub_kind_bits subs ++ flat_map sub_vector_bits subs
