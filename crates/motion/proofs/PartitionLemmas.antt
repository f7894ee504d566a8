-- The first block of a partition: it is the earliest, and has the same partition as the others.
use Rattle.std.proofs.Common.{◌≡◌, ℕ, ◌+◌, ◌*◌, ◌<◌, ◌≤◌, ◌/◌, ◌%◌, Bool, true, false, cond, eqb, List, slice_index_or, refl, sym, ap, ◌∙◌, arith}
use Rattle.cb_types.specs.declared.macroblock.MbKind.{MbKind}
use Rattle.cb_types.specs.declared.macroblock.MbKind.TheVariants.{Skip, Pcm, Intra4, Intra16, Whole, Wide, Tall, Four, FourFirst}
use Rattle.cb_types.specs.declared.macroblock.Sub.{Sub}
use Rattle.motion.specs.Partitions.{first_block, no_part, no_sub, part_of_sub, partition_of, sub_partition, tall, wide}

sub_first_before : (sub : Sub) (block : ℕ) → block < 16 → first_block (sub_partition sub block) ≤ block
sub_first_before sub block lt =
    elim (eqb sub.kind 0) as (λ v. first_block (cond v (part_of_sub sub block 2 2 0 0 0) (cond (eqb sub.kind 1) (part_of_sub sub block 2 1 0 (block / 2 % 2) (block / 2 % 2)) (cond (eqb sub.kind 2) (part_of_sub sub block 1 2 (block % 2) 0 (block % 2)) (part_of_sub sub block 1 1 (block % 2) (block / 2 % 2) (block % 4))))) ≤ block) [
      | true ↦ omega arith
      | false ↦ elim (eqb sub.kind 1) as (λ v. first_block (cond v (part_of_sub sub block 2 1 0 (block / 2 % 2) (block / 2 % 2)) (cond (eqb sub.kind 2) (part_of_sub sub block 1 2 (block % 2) 0 (block % 2)) (part_of_sub sub block 1 1 (block % 2) (block / 2 % 2) (block % 4)))) ≤ block) [
        | true ↦ omega arith
        | false ↦ elim (eqb sub.kind 2) as (λ v. first_block (cond v (part_of_sub sub block 1 2 (block % 2) 0 (block % 2)) (part_of_sub sub block 1 1 (block % 2) (block / 2 % 2) (block % 4))) ≤ block) [
          | true ↦ omega arith
          | false ↦ omega arith
        ]
      ]
    ]

pub first_before : (kind : MbKind) (block : ℕ) → block < 16 → first_block (partition_of kind block) ≤ block
unfolding partition_of
first_before Skip block lt = omega arith
first_before (Pcm samples) block lt = omega arith
first_before (Intra4 modes chroma pattern) block lt = omega arith
first_before (Intra16 mode chroma pattern) block lt = omega arith
first_before (Whole part pattern) block lt = omega arith
first_before (Wide parts pattern) block lt = omega arith
first_before (Tall parts pattern) block lt = omega arith
first_before (Four subs pattern) block lt = sub_first_before (slice_index_or subs (block / 4) no_sub) block lt
first_before (FourFirst subs pattern) block lt = sub_first_before (slice_index_or subs (block / 4) no_sub) block lt

same_part : (sub : Sub) (b c width height a a' d d' i i' : ℕ) → b / 4 % 2 ≡ c / 4 % 2 → b / 8 ≡ c / 8 → a ≡ a' → d ≡ d' → i ≡ i' → part_of_sub sub b width height a d i ≡ part_of_sub sub c width height a' d' i'
same_part sub b c width height a a' d d' i i' e f g h j = cc

-- the first block of a part, in each of the four ways in which a sub-macroblock is parted
sub_same : (sub : Sub) (block : ℕ) → block < 16 → (first_block (sub_partition sub block) / 4 ≡ block / 4) × (sub_partition sub (first_block (sub_partition sub block)) ≡ sub_partition sub block)
sub_same sub block lt =
    let P : Bool → Bool → Bool → ℕ → Type 0 = λ k l m first.
    (first / 4 ≡ block / 4) ×
    (cond k (part_of_sub sub first 2 2 0 0 0) (cond l (part_of_sub sub first 2 1 0 (first / 2 % 2) (first / 2 % 2)) (cond m (part_of_sub sub first 1 2 (first % 2) 0 (first % 2)) (part_of_sub sub first 1 1 (first % 2) (first / 2 % 2) (first % 4))))
    ≡ cond k (part_of_sub sub block 2 2 0 0 0) (cond l (part_of_sub sub block 2 1 0 (block / 2 % 2) (block / 2 % 2)) (cond m (part_of_sub sub block 1 2 (block % 2) 0 (block % 2)) (part_of_sub sub block 1 1 (block % 2) (block / 2 % 2) (block % 4))))) in
    let F : Bool → Bool → Bool → ℕ = λ k l m.
    first_block (cond k (part_of_sub sub block 2 2 0 0 0) (cond l (part_of_sub sub block 2 1 0 (block / 2 % 2) (block / 2 % 2)) (cond m (part_of_sub sub block 1 2 (block % 2) 0 (block % 2)) (part_of_sub sub block 1 1 (block % 2) (block / 2 % 2) (block % 4))))) in
    elim (eqb sub.kind 0) as (λ v. P v (eqb sub.kind 1) (eqb sub.kind 2) (F v (eqb sub.kind 1) (eqb sub.kind 2))) [
      | true ↦ (omega arith, same_part sub (first_block (part_of_sub sub block 2 2 0 0 0)) block 2 2 0 0 0 0 0 0 (omega arith) (omega arith) refl refl refl)
      | false ↦ elim (eqb sub.kind 1) as (λ v. P false v (eqb sub.kind 2) (F false v (eqb sub.kind 2))) [
        | true ↦ (omega arith, same_part sub (first_block (part_of_sub sub block 2 1 0 (block / 2 % 2) (block / 2 % 2))) block 2 1 0 0 _ _ _ _ (omega arith) (omega arith) refl (omega arith) (omega arith))
        | false ↦ elim (eqb sub.kind 2) as (λ v. P false false v (F false false v)) [
          | true ↦ (omega arith, same_part sub (first_block (part_of_sub sub block 1 2 (block % 2) 0 (block % 2))) block 1 2 _ _ 0 0 _ _ (omega arith) (omega arith) (omega arith) refl (omega arith))
          | false ↦ (omega arith, same_part sub (first_block (part_of_sub sub block 1 1 (block % 2) (block / 2 % 2) (block % 4))) block 1 1 _ _ _ _ _ _ (omega arith) (omega arith) (omega arith) (omega arith) (omega arith))
        ]
      ]
    ]

sub_in : (subs : List Sub) (block : ℕ) → block < 16
    → let sub = slice_index_or subs (block / 4) no_sub in
    let first = first_block (sub_partition sub block) in
    sub_partition (slice_index_or subs (first / 4) no_sub) first ≡ sub_partition sub block
sub_in subs block lt =
    let sub : Sub = slice_index_or subs (block / 4) no_sub in
    let first : ℕ = first_block (sub_partition sub block) in
    let same = sub_same sub block lt in
    ap (λ k. sub_partition (slice_index_or subs k no_sub) first) same.0 ∙ same.1

pub same_partition : (kind : MbKind) (block : ℕ) → block < 16 → partition_of kind (first_block (partition_of kind block)) ≡ partition_of kind block
unfolding partition_of
same_partition Skip block lt = refl
same_partition (Pcm samples) block lt = refl
same_partition (Intra4 modes chroma pattern) block lt = refl
same_partition (Intra16 mode chroma pattern) block lt = refl
same_partition (Whole part pattern) block lt = refl
same_partition (Wide parts pattern) block lt =
    let e : first_block (wide (slice_index_or parts (block / 8) no_part) (block / 8)) / 8 ≡ block / 8 = omega arith in
    ap (λ k. wide (slice_index_or parts k no_part) k) e
same_partition (Tall parts pattern) block lt =
    let e : first_block (tall (slice_index_or parts (block / 4 % 2) no_part) (block / 4 % 2)) / 4 % 2 ≡ block / 4 % 2 = omega arith in
    ap (λ k. tall (slice_index_or parts k no_part) k) e
same_partition (Four subs pattern) block lt = sub_in subs block lt
same_partition (FourFirst subs pattern) block lt = sub_in subs block lt
