-- What the ranges of a macroblock's kind give for each block.
use Rattle.std.proofs.Common.{◌≡◌, ℕ, ◌/◌, ◌%◌, ◌<◌, true, false, cond, eqb, inl, inr, List, length, refl, ap, arith}
use Rattle.std.specs.Prelude.{All, slice_index_or}
use Rattle.std.proofs.lemmas.Bool.{cases_lt}
use Rattle.std.proofs.lemmas.List.{get_or_past}
use Rattle.cb_types.specs.declared.macroblock.MbKind.{MbKind}
use Rattle.cb_types.specs.declared.macroblock.MbKind.TheVariants.{Skip, Pcm, Intra4, Intra16, Whole, Wide, Tall, Four, FourFirst}
use Rattle.cb_types.specs.declared.macroblock.Part.{Part}
use Rattle.cb_types.specs.declared.macroblock.Sub.{Sub}
use Rattle.motion.specs.Partitions.{no_part, no_sub, partition_of, part_of_sub, sub_partition}
use Rattle.recon.specs.Conditions.{IsKindRange, IsPartRange, IsSubRange}

part_small : (parts : List Part) (k : ℕ) → All IsPartRange parts → (slice_index_or parts k no_part).reference < 16
part_small parts k each = elim (cases_lt k (length parts)) [
  | inl lt ↦ each k no_part lt
  | inr past ↦ let e = get_or_past parts k no_part past in omega (arith, ap (λ (p : Part). p.reference) e)
]

sub_small : (subs : List Sub) (k : ℕ) → All IsSubRange subs → (slice_index_or subs k no_sub).reference < 16
sub_small subs k each = elim (cases_lt k (length subs)) [
  | inl lt ↦ each k no_sub lt
  | inr past ↦ let e = get_or_past subs k no_sub past in omega (arith, ap (λ (p : Sub). p.reference) e)
]

sub_reference : (sub : Sub) (block : ℕ) → (sub_partition sub block).reference ≡ sub.reference
sub_reference sub block =
    elim (eqb sub.kind 0) as (λ v. (cond v (part_of_sub sub block 2 2 0 0 0) (cond (eqb sub.kind 1) (part_of_sub sub block 2 1 0 (block / 2 % 2) (block / 2 % 2)) (cond (eqb sub.kind 2) (part_of_sub sub block 1 2 (block % 2) 0 (block % 2)) (part_of_sub sub block 1 1 (block % 2) (block / 2 % 2) (block % 4))))).reference ≡ sub.reference) [
      | true ↦ refl
      | false ↦ elim (eqb sub.kind 1) as (λ v. (cond v (part_of_sub sub block 2 1 0 (block / 2 % 2) (block / 2 % 2)) (cond (eqb sub.kind 2) (part_of_sub sub block 1 2 (block % 2) 0 (block % 2)) (part_of_sub sub block 1 1 (block % 2) (block / 2 % 2) (block % 4)))).reference ≡ sub.reference) [
        | true ↦ refl
        | false ↦ elim (eqb sub.kind 2) as (λ v. (cond v (part_of_sub sub block 1 2 (block % 2) 0 (block % 2)) (part_of_sub sub block 1 1 (block % 2) (block / 2 % 2) (block % 4))).reference ≡ sub.reference) [ true ↦ refl | false ↦ refl ]
      ]
    ]

pub reference_small : (kind : MbKind) (block : ℕ) → IsKindRange kind → (partition_of kind block).reference < 16
unfolding partition_of
reference_small Skip block range = omega arith
reference_small (Pcm samples) block range = omega arith
reference_small (Intra4 modes chroma pattern) block range = omega arith
reference_small (Intra16 mode chroma pattern) block range = omega arith
reference_small (Whole part pattern) block range = range
reference_small (Wide parts pattern) block range = part_small parts (block / 8) range
reference_small (Tall parts pattern) block range = part_small parts (block / 4 % 2) range
reference_small (Four subs pattern) block range = omega (arith, sub_reference (slice_index_or subs (block / 4) no_sub) block, sub_small subs (block / 4) range)
reference_small (FourFirst subs pattern) block range = omega (arith, sub_reference (slice_index_or subs (block / 4) no_sub) block, sub_small subs (block / 4) range)
