-- The partitions of inter predicted macroblocks (H.264, 6.4.2, 7.4.5 and 7.4.5.2). Places and sides are counted in 4x4 luma blocks.
use Rattle.std.specs.Prelude.{ℕ, ◌+◌, ◌*◌, ◌/◌, ◌%◌, ◌<◌, ◌≤◌, ◌==◌, if◌then◌else◌, List, [], slice_index_or, ℤ, pos}
use Rattle.cb_types.specs.Blocks.{block_at, block_column, block_row}
use Rattle.cb_types.specs.declared.macroblock.MbKind.{MbKind}
use Rattle.cb_types.specs.declared.macroblock.MbKind.TheVariants.{Skip, Pcm, Intra4, Intra16, Whole, Wide, Tall, Four, FourFirst}
use Rattle.cb_types.specs.declared.macroblock.Part.{Part}
use Rattle.cb_types.specs.declared.macroblock.Sub.{Sub}
use Rattle.cb_types.specs.declared.macroblock.Vector.{Vector}
use Rattle.mv_pred.specs.Neighbours.{no_motion}
use Rattle.motion.specs.declared.partition.Partition.{Partition}

-- the block of a partition that is above and left of its others, which is the earliest of them
abbrev pub first_block : Partition → ℕ
first_block partition = block_at partition.column partition.row

abbrev pub no_part : Part
no_part = record { reference = 0; delta = no_motion }

abbrev pub no_sub : Sub
no_sub = record { reference = 0; kind = 0; deltas = [] }

-- 16x16
abbrev pub whole : Part → Partition
whole part = record { column = 0; row = 0; width = 4; height = 4; shape = 0; index = 0; reference = part.reference; delta = part.delta }

-- 16x8: the upper part is 0 and the lower one 1
abbrev pub wide : Part → ℕ → Partition
wide part index = record { column = 0; row = 2 * index; width = 4; height = 2; shape = 1; index = index; reference = part.reference; delta = part.delta }

-- 8x16: the left part is 0 and the right one 1
abbrev pub tall : Part → ℕ → Partition
tall part index = record { column = 2 * index; row = 0; width = 2; height = 4; shape = 2; index = index; reference = part.reference; delta = part.delta }

-- a part of a sub-macroblock that is this many blocks wide and high, and stands this far right of and below its first block
abbrev pub part_of_sub : Sub → ℕ → ℕ → ℕ → ℕ → ℕ → ℕ → Partition
part_of_sub sub block width height across down index = record {
  column = 2 * (block / 4 % 2) + across;
  row = 2 * (block / 8) + down;
  width = width;
  height = height;
  shape = 0;
  index = 0;
  reference = sub.reference;
  delta = slice_index_or sub.deltas index no_motion;
}

-- the part of a sub-macroblock that has this block, by sub_mb_type: 8x8, 8x4, 4x8, 4x4
abbrev pub sub_partition : Sub → ℕ → Partition
sub_partition sub block =
    if sub.kind == 0 then part_of_sub sub block 2 2 0 0 0
    else (if sub.kind == 1 then part_of_sub sub block 2 1 0 (block / 2 % 2) (block / 2 % 2)
    else (if sub.kind == 2 then part_of_sub sub block 1 2 (block % 2) 0 (block % 2)
    else part_of_sub sub block 1 1 (block % 2) (block / 2 % 2) (block % 4)))

-- The partition that has this block. A skipped macroblock is one with reference 0 and without a difference (8.4.1.1).
unfoldable pub partition_of : MbKind → ℕ → Partition
partition_of Skip block = whole no_part
partition_of (Pcm samples) block = whole no_part
partition_of (Intra4 modes chroma pattern) block = whole no_part
partition_of (Intra16 mode chroma pattern) block = whole no_part
partition_of (Whole part pattern) block = whole part
partition_of (Wide parts pattern) block = wide (slice_index_or parts (block / 8) no_part) (block / 8)
partition_of (Tall parts pattern) block = tall (slice_index_or parts (block / 4 % 2) no_part) (block / 4 % 2)
partition_of (Four subs pattern) block = sub_partition (slice_index_or subs (block / 4) no_sub) block
partition_of (FourFirst subs pattern) block = sub_partition (slice_index_or subs (block / 4) no_sub) block

-- a partition's place and sides lie in its macroblock, and its shape is one of the three
pub record IsPlaced (partition : Partition) : Type 0 where
  pub some_column : 1 ≤ partition.width
  pub columns : partition.column + partition.width ≤ 4
  pub some_row : 1 ≤ partition.height
  pub rows : partition.row + partition.height ≤ 4
  pub of_shape : partition.shape ≤ 2
  pub of_index : partition.index ≤ 1
