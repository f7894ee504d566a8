-- The partition that has a block is the one whose rectangle covers it.
use Rattle.std.proofs.Common.{◌≡◌, ℕ, ◌+◌, ◌/◌, ◌%◌, ◌<◌, ◌≤◌, Bool, true, false, cond, eqb, inl, inr, List, slice_index_or, refl, sym, ap, ◌∙◌, subst, arith}
use Rattle.std.proofs.lemmas.Bool.{cases_eq}
use Rattle.std.proofs.lemmas.Bool.Decides.{nat_tests}
use Rattle.cb_types.specs.Blocks.{block_column, block_row}
use Rattle.cb_types.specs.declared.macroblock.MbKind.{MbKind}
use Rattle.cb_types.specs.declared.macroblock.MbKind.TheVariants.{Skip, Pcm, Intra4, Intra16, Whole, Wide, Tall, Four, FourFirst}
use Rattle.cb_types.specs.declared.macroblock.Sub.{Sub}
use Rattle.motion.specs.Partitions.{first_block, no_sub, partition_of, part_of_sub, sub_partition}
use Rattle.motion.specs.declared.partition.Partition.{Partition}
use Rattle.motion.proofs.PartitionLemmas.{same_partition}
use Rattle.vd_plane.specs.SampleArray.{Rect, covers, rect_at}

abbrev pub rect_of : Partition → Rect
rect_of p = rect_at p.column p.row p.width p.height

-- a block is in a partition's rectangle
pub record IsIn (p : Partition) (b : ℕ) : Type 0 where
  pub left : p.column ≤ block_column b
  pub right : block_column b < p.column + p.width
  pub top : p.row ≤ block_row b
  pub bottom : block_row b < p.row + p.height

is_in : (l t w h x y : ℕ) → covers (rect_at l t w h) x y ≡ true → (l ≤ x) × (x < l + w) × (t ≤ y) × (y < t + h)
is_in l t w h x y e = (grind (arith, nat_tests), grind (arith, nat_tests), grind (arith, nat_tests), grind (arith, nat_tests))

covered : (l t w h x y u v : ℕ) → l ≤ x → x < l + w → t ≤ y → y < t + h → cond (covers (rect_at l t w h) x y) u v ≡ u
covered l t w h x y u v a b c d = grind (arith, nat_tests)

not_covered : (l t w h x y u v : ℕ) → (l ≤ x → x < l + w → t ≤ y → y < t + h → ⊥) → cond (covers (rect_at l t w h) x y) u v ≡ v
not_covered l t w h x y u v apart = grind (arith, nat_tests)

-- the parts of a sub-macroblock by the three tests of its type
abbrev parted : Bool → Bool → Bool → Sub → ℕ → Partition
parted k l m sub block =
    cond k (part_of_sub sub block 2 2 0 0 0)
    (cond l (part_of_sub sub block 2 1 0 (block / 2 % 2) (block / 2 % 2))
    (cond m (part_of_sub sub block 1 2 (block % 2) 0 (block % 2))
    (part_of_sub sub block 1 1 (block % 2) (block / 2 % 2) (block % 4))))

part_own : (k l m : Bool) (sub : Sub) (b : ℕ) → b < 16 → IsIn (parted k l m sub b) b
part_own true l m sub b lt = record { left = omega arith; right = omega arith; top = omega arith; bottom = omega arith }
part_own false true m sub b lt = record { left = omega arith; right = omega arith; top = omega arith; bottom = omega arith }
part_own false false true sub b lt = record { left = omega arith; right = omega arith; top = omega arith; bottom = omega arith }
part_own false false false sub b lt = record { left = omega arith; right = omega arith; top = omega arith; bottom = omega arith }

part_quarter : (k l m : Bool) (sub : Sub) (b n : ℕ) → b < 16 → n < 16 → IsIn (parted k l m sub n) b → b / 4 ≡ n / 4
part_quarter true l m sub b n lt less here = omega arith
part_quarter false true m sub b n lt less here = omega arith
part_quarter false false true sub b n lt less here = omega arith
part_quarter false false false sub b n lt less here = omega arith

part_only : (k l m : Bool) (sub : Sub) (b n : ℕ) → b < 16 → n < 16 → IsIn (parted k l m sub n) b → first_block (parted k l m sub b) ≡ first_block (parted k l m sub n)
part_only true l m sub b n lt less here = omega arith
part_only false true m sub b n lt less here = omega arith
part_only false false true sub b n lt less here = omega arith
part_only false false false sub b n lt less here = omega arith

sub_only : (subs : List Sub) (b n : ℕ) → b < 16 → n < 16 → IsIn (sub_partition (slice_index_or subs (n / 4) no_sub) n) b
    → first_block (sub_partition (slice_index_or subs (b / 4) no_sub) b) ≡ first_block (sub_partition (slice_index_or subs (n / 4) no_sub) n)
sub_only subs b n lt less here =
    let sub : Sub = slice_index_or subs (n / 4) no_sub in
    let e : b / 4 ≡ n / 4 = part_quarter (eqb sub.kind 0) (eqb sub.kind 1) (eqb sub.kind 2) sub b n lt less here in
    ap (λ k. first_block (sub_partition (slice_index_or subs k no_sub) b)) e
    ∙ part_only (eqb sub.kind 0) (eqb sub.kind 1) (eqb sub.kind 2) sub b n lt less here

own_sub : (sub : Sub) (b : ℕ) → b < 16 → IsIn (sub_partition sub b) b
own_sub sub b lt = part_own (eqb sub.kind 0) (eqb sub.kind 1) (eqb sub.kind 2) sub b lt

pub covers_own : (kind : MbKind) (b : ℕ) → b < 16 → IsIn (partition_of kind b) b
unfolding partition_of
covers_own Skip b lt = record { left = omega arith; right = omega arith; top = omega arith; bottom = omega arith }
covers_own (Pcm samples) b lt = record { left = omega arith; right = omega arith; top = omega arith; bottom = omega arith }
covers_own (Intra4 modes chroma pattern) b lt = record { left = omega arith; right = omega arith; top = omega arith; bottom = omega arith }
covers_own (Intra16 mode chroma pattern) b lt = record { left = omega arith; right = omega arith; top = omega arith; bottom = omega arith }
covers_own (Whole part pattern) b lt = record { left = omega arith; right = omega arith; top = omega arith; bottom = omega arith }
covers_own (Wide parts pattern) b lt = record { left = omega arith; right = omega arith; top = omega arith; bottom = omega arith }
covers_own (Tall parts pattern) b lt = record { left = omega arith; right = omega arith; top = omega arith; bottom = omega arith }
covers_own (Four subs pattern) b lt = own_sub (slice_index_or subs (b / 4) no_sub) b lt
covers_own (FourFirst subs pattern) b lt = own_sub (slice_index_or subs (b / 4) no_sub) b lt

pub covers_only : (kind : MbKind) (b n : ℕ) → b < 16 → n < 16 → IsIn (partition_of kind n) b → first_block (partition_of kind b) ≡ first_block (partition_of kind n)
unfolding partition_of
covers_only Skip b n lt less here = refl
covers_only (Pcm samples) b n lt less here = refl
covers_only (Intra4 modes chroma pattern) b n lt less here = refl
covers_only (Intra16 mode chroma pattern) b n lt less here = refl
covers_only (Whole part pattern) b n lt less here = refl
covers_only (Wide parts pattern) b n lt less here = omega arith
covers_only (Tall parts pattern) b n lt less here = omega arith
covers_only (Four subs pattern) b n lt less here = sub_only subs b n lt less here
covers_only (FourFirst subs pattern) b n lt less here = sub_only subs b n lt less here

-- a sample in block b, after the partition that begins with block n was predicted
pub partition_laid : (kind : MbKind) (n b column row old new value wanted : ℕ) → n < 16 → b < 16 → column ≡ block_column b → row ≡ block_row b
    → first_block (partition_of kind n) ≡ n
    → new ≡ cond (covers (rect_of (partition_of kind n)) column row) value old
    → (first_block (partition_of kind b) ≡ n → value ≡ wanted)
    → (first_block (partition_of kind b) < n → old ≡ wanted)
    → first_block (partition_of kind b) < n + 1 → new ≡ wanted
partition_laid kind n b column row old new value wanted less lt is_column is_row begins is here before within =
    let p : Partition = partition_of kind n in
    elim (cases_eq (first_block (partition_of kind b)) n) [
      | inl e ↦
          let same : partition_of kind b ≡ p = sym (same_partition kind b lt) ∙ ap (partition_of kind) e in
          let own : IsIn p b = subst (λ q. IsIn q b) same (covers_own kind b lt) in
          is ∙ (covered p.column p.row p.width p.height column row value old (omega (arith, own.left)) (omega (arith, own.right)) (omega (arith, own.top)) (omega (arith, own.bottom)) ∙ here e)
      | inr ne ↦
          is ∙ (not_covered p.column p.row p.width p.height column row value old
          (λ q r s t. ne (covers_only kind b n lt less (record { left = omega arith; right = omega arith; top = omega arith; bottom = omega arith }) ∙ begins))
          ∙ before (omega arith))
    ]

-- where no partition begins with block n, none of its blocks is the first of one
pub none_begins : (kind : MbKind) (n b : ℕ) → b < 16 → (first_block (partition_of kind n) ≡ n → ⊥) → first_block (partition_of kind b) < n + 1 → first_block (partition_of kind b) < n
none_begins kind n b lt not_first within = elim (cases_eq (first_block (partition_of kind b)) n) [
  | inl e ↦ absurd (not_first (ap (λ k. first_block (partition_of kind k)) (sym e) ∙ (ap first_block (same_partition kind b lt) ∙ e)))
  | inr ne ↦ omega arith
]
