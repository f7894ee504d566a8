-- The predicted samples of an inter macroblock, partition by partition.
use Rattle.std.proofs.Common.{◌≡◌, ℕ, ◌+◌, ◌<◌, false, inl, inr, List, Option, Some, sym, ap, ◌∙◌, arith}
use Rattle.std.proofs.lemmas.Bool.{cases_eq}
use Rattle.cb_types.specs.declared.macroblock.MbKind.{MbKind}
use Rattle.cb_types.specs.declared.macroblock.Vector.{Vector}
use Rattle.motion.specs.Border.{vector_at}
use Rattle.motion.specs.Partitions.{first_block, partition_of}
use Rattle.motion.specs.Vectors.{AreShared}
use Rattle.motion.specs.declared.partition.Partition.{Partition}
use Rattle.motion.proofs.PartitionLemmas.{same_partition}
use Rattle.vd_plane.specs.declared.picture.Picture.{Picture}
use Rattle.recon.specs.Inter.{chroma_block, chroma_shown, chroma_weight, entry_weights, inter_cb, inter_cr, inter_luma, luma_block, luma_shown, under}
use Rattle.recon.specs.References.{cb_of, cr_of, is_lacking, picture_of, y_of}
use Rattle.recon.specs.Slice.{Slice, column_of, kind_at, row_of}

-- a partition is that of each block of which it has the first
pub partition_is : (kind : MbKind) (b n : ℕ) → b < 16 → first_block (partition_of kind b) ≡ n → partition_of kind n ≡ partition_of kind b
partition_is kind b n lt e = ap (partition_of kind) (sym e) ∙ same_partition kind b lt

vector_is : (kind : MbKind) (vectors : List Vector) (b n : ℕ) → b < 16 → AreShared kind vectors → first_block (partition_of kind b) ≡ n → vector_at vectors n ≡ vector_at vectors b
vector_is kind vectors b n lt shared e = ap (vector_at vectors) (sym e) ∙ sym (shared b lt)

-- the references of one more partition are there
pub lacking_more : (slice : Slice) (kind : MbKind) (n entry : ℕ) → entry ≡ (partition_of kind n).reference → is_lacking slice.info slice.list slice.pictures entry ≡ false
    → ((b : ℕ) → b < 16 → first_block (partition_of kind b) < n → is_lacking slice.info slice.list slice.pictures (partition_of kind b).reference ≡ false)
    → (b : ℕ) → b < 16 → first_block (partition_of kind b) < n + 1 → is_lacking slice.info slice.list slice.pictures (partition_of kind b).reference ≡ false
lacking_more slice kind n entry is held before b lt within = elim (cases_eq (first_block (partition_of kind b)) n) [
  | inl e ↦ ap (is_lacking slice.info slice.list slice.pictures) (ap (λ (p : Partition). p.reference) (sym (partition_is kind b n lt e)) ∙ sym is) ∙ held
  | inr ne ↦ before b lt (omega arith)
]

-- the sample that the partition beginning with block n predicts
pub luma_wanted : (slice : Slice) (number : ℕ) (vectors : List Vector) (picture : Picture) (n x y entry : ℕ) (vector : Vector) → luma_block x y < 16 → AreShared (kind_at slice number) vectors
    → entry ≡ (partition_of (kind_at slice number) n).reference → vector ≡ vector_at vectors n
    → picture_of slice.list slice.pictures entry ≡ Some picture
    → first_block (partition_of (kind_at slice number) (luma_block x y)) ≡ n
    → under slice.header.weights.luma_denom (entry_weights slice.info slice.header entry).luma (luma_shown picture.y vector (column_of slice number) (row_of slice number) x y)
    ≡ inter_luma slice number vectors x y
unfolding inter_luma
luma_wanted slice number vectors picture n x y entry vector lt shared is_entry is_vector held first =
    let kind : MbKind = kind_at slice number in
    let b : ℕ = luma_block x y in
    let f : Option Picture → ℕ → Vector → ℕ = λ p k v. under slice.header.weights.luma_denom (entry_weights slice.info slice.header k).luma (luma_shown (y_of p) v (column_of slice number) (row_of slice number) x y) in
    let same : entry ≡ (partition_of kind b).reference = is_entry ∙ ap (λ (p : Partition). p.reference) (partition_is kind b n lt first) in
    let moved : vector ≡ vector_at vectors b = is_vector ∙ vector_is kind vectors b n lt shared first in
    ap (λ p. f p entry vector) (sym held) ∙ (ap (λ k. f (picture_of slice.list slice.pictures k) k vector) same ∙ ap (λ v. f (picture_of slice.list slice.pictures (partition_of kind b).reference) (partition_of kind b).reference v) moved)

pub cb_wanted : (slice : Slice) (number : ℕ) (vectors : List Vector) (picture : Picture) (n x y entry : ℕ) (vector : Vector) → chroma_block x y < 16 → AreShared (kind_at slice number) vectors
    → entry ≡ (partition_of (kind_at slice number) n).reference → vector ≡ vector_at vectors n
    → picture_of slice.list slice.pictures entry ≡ Some picture
    → first_block (partition_of (kind_at slice number) (chroma_block x y)) ≡ n
    → under slice.header.weights.chroma_denom (chroma_weight (entry_weights slice.info slice.header entry).chroma 0) (chroma_shown picture.cb vector (column_of slice number) (row_of slice number) x y)
    ≡ inter_cb slice number vectors x y
unfolding inter_cb
cb_wanted slice number vectors picture n x y entry vector lt shared is_entry is_vector held first =
    let kind : MbKind = kind_at slice number in
    let b : ℕ = chroma_block x y in
    let f : Option Picture → ℕ → Vector → ℕ = λ p k v. under slice.header.weights.chroma_denom (chroma_weight (entry_weights slice.info slice.header k).chroma 0) (chroma_shown (cb_of p) v (column_of slice number) (row_of slice number) x y) in
    let same : entry ≡ (partition_of kind b).reference = is_entry ∙ ap (λ (p : Partition). p.reference) (partition_is kind b n lt first) in
    let moved : vector ≡ vector_at vectors b = is_vector ∙ vector_is kind vectors b n lt shared first in
    ap (λ p. f p entry vector) (sym held) ∙ (ap (λ k. f (picture_of slice.list slice.pictures k) k vector) same ∙ ap (λ v. f (picture_of slice.list slice.pictures (partition_of kind b).reference) (partition_of kind b).reference v) moved)

pub cr_wanted : (slice : Slice) (number : ℕ) (vectors : List Vector) (picture : Picture) (n x y entry : ℕ) (vector : Vector) → chroma_block x y < 16 → AreShared (kind_at slice number) vectors
    → entry ≡ (partition_of (kind_at slice number) n).reference → vector ≡ vector_at vectors n
    → picture_of slice.list slice.pictures entry ≡ Some picture
    → first_block (partition_of (kind_at slice number) (chroma_block x y)) ≡ n
    → under slice.header.weights.chroma_denom (chroma_weight (entry_weights slice.info slice.header entry).chroma 1) (chroma_shown picture.cr vector (column_of slice number) (row_of slice number) x y)
    ≡ inter_cr slice number vectors x y
unfolding inter_cr
cr_wanted slice number vectors picture n x y entry vector lt shared is_entry is_vector held first =
    let kind : MbKind = kind_at slice number in
    let b : ℕ = chroma_block x y in
    let f : Option Picture → ℕ → Vector → ℕ = λ p k v. under slice.header.weights.chroma_denom (chroma_weight (entry_weights slice.info slice.header k).chroma 1) (chroma_shown (cr_of p) v (column_of slice number) (row_of slice number) x y) in
    let same : entry ≡ (partition_of kind b).reference = is_entry ∙ ap (λ (p : Partition). p.reference) (partition_is kind b n lt first) in
    let moved : vector ≡ vector_at vectors b = is_vector ∙ vector_is kind vectors b n lt shared first in
    ap (λ p. f p entry vector) (sym held) ∙ (ap (λ k. f (picture_of slice.list slice.pictures k) k vector) same ∙ ap (λ v. f (picture_of slice.list slice.pictures (partition_of kind b).reference) (partition_of kind b).reference v) moved)
