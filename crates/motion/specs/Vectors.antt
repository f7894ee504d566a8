-- The vectors of a macroblock's 4x4 blocks, as a system of equations over these vectors themselves. H.264, 8.4.1.
use Rattle.std.specs.Prelude.{◌≡◌, ℕ, ◌+◌, ◌-◌, ◌<◌, ◌==◌, nat_lt, if◌then◌else◌, List, slice_index_or, ℤ, pos, neg_ℤ, ◌+ℤ◌, ◌≤ℤ◌, ◌<ℤ◌}
use Rattle.cb_types.specs.Blocks.{block_at}
use Rattle.cb_types.specs.declared.macroblock.MbKind.{MbKind}
use Rattle.cb_types.specs.declared.macroblock.Vector.{Vector}
use Rattle.mv_pred.specs.Neighbours.{no_motion}
use Rattle.mv_pred.specs.Prediction.{predicted, skipped}
use Rattle.mv_pred.specs.declared.near.Near.{Near}
use Rattle.mv_pred.specs.declared.near.Near.TheVariants.{Missing, Inter}
use Rattle.motion.specs.Border.{vector_at}
use Rattle.motion.specs.Kinds.{is_intra, is_skip}
use Rattle.motion.specs.Partitions.{first_block, partition_of}
use Rattle.motion.specs.declared.border.Border.{Border}
use Rattle.motion.specs.declared.partition.Partition.{Partition}

-- A block of the macroblock itself, for a partition that begins with the block first: it is available where it is earlier.
abbrev pub own : MbKind → List Vector → ℕ → ℕ → Near
own kind vectors first block = if nat_lt block first then Inter (partition_of kind block).reference (vector_at vectors block) else Missing

-- The blocks above a macroblock, at a column that is counted from 1: column 0 is left of the macroblock, and column 5 right of it.
abbrev pub above : Border → ℕ → Near
above border column =
    if column == 0 then border.corner
    else (if column == 5 then border.right
    else slice_index_or border.above (column - 1) Missing)

-- The block at a column and a row that are counted from 1: row 0 is above the macroblock. There is nothing yet right of the
-- macroblock, but above it (6.4.11.7).
unfoldable pub near_at : Border → MbKind → List Vector → ℕ → ℕ → ℕ → Near
near_at border kind vectors first column row =
    if row == 0 then above border column
    else (if column == 0 then slice_index_or border.left (row - 1) Missing
    else (if column == 5 then Missing
    else own kind vectors first (block_at (column - 1) (row - 1))))

-- the prediction of a partition's vector from A (left), B (above), C (above right) and D (above left) (8.4.1.1, 8.4.1.3)
unfoldable pub prediction : Border → MbKind → List Vector → Partition → Vector
prediction border kind vectors partition =
    let near = near_at border kind vectors (first_block partition) in
    let a = near partition.column (partition.row + 1) in
    let b = near (partition.column + 1) partition.row in
    let c = near (partition.column + partition.width + 1) partition.row in
    let d = near partition.column partition.row in
    if is_skip kind then skipped a b c d else predicted partition.shape partition.index partition.reference a b c d

abbrev pub sum_of : Vector → Vector → Vector
sum_of prediction delta = record { x = prediction.x +ℤ delta.x; y = prediction.y +ℤ delta.y }

-- The vector of a block is that of its partition: the prediction plus the difference, which is 0 of a skipped macroblock
-- (8.4.1). An intra macroblock has vectors of 0.
unfoldable pub vector_of : Border → MbKind → List Vector → ℕ → Vector
vector_of border kind vectors block =
    let partition = partition_of kind block in
    if is_intra kind then no_motion else sum_of (prediction border kind vectors partition) partition.delta

-- from -bound to bound - 1
pub record IsBetween (bound z : ℤ) : Type 0 where
  pub least : neg_ℤ bound ≤ℤ z
  pub most : z <ℤ bound

-- the bounds of vectors, in quarter samples: -8192 to 8191 across and -2048 to 2047 down
pub record IsWithinBounds (vector : Vector) : Type 0 where
  pub across : IsBetween (pos 8192) vector.x
  pub down : IsBetween (pos 2048) vector.y

-- the equation of a block
pub record IsVector (border : Border) (kind : MbKind) (vectors : List Vector) (block : ℕ) : Type 0 where
  pub value : vector_at vectors block ≡ vector_of border kind vectors block
  pub bounds : IsWithinBounds (vector_at vectors block)

-- the equations of the blocks before one
abbrev pub AreVectors : Border → MbKind → ℕ → List Vector → Type 0
AreVectors border kind end vectors = (block : ℕ) → block < end → IsVector border kind vectors block

-- A vector is outside the bounds, after those of the blocks before it.
pub record LeavesBounds (border : Border) (kind : MbKind) : Type 0 where
  pub vectors : List Vector
  pub block : ℕ
  pub inside : block < 16
  pub before : AreVectors border kind block vectors
  pub outside : ¬ IsWithinBounds (vector_of border kind vectors block)

-- The blocks of a partition have the vector of its first block.
abbrev pub AreShared : MbKind → List Vector → Type 0
AreShared kind vectors = (block : ℕ) → block < 16 → vector_at vectors block ≡ vector_at vectors (first_block (partition_of kind block))
