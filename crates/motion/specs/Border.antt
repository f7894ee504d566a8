-- What the blocks beside a macroblock tell of their motion. H.264, 8.4.1.3.2.
use Rattle.std.specs.Prelude.{ℕ, if◌then◌else◌, List, [], ◌∷◌, slice_index_or, Option, Some, None, pos, false}
use Rattle.cb_types.specs.Blocks.{block_at}
use Rattle.cb_types.specs.declared.macroblock.Macroblock.{Macroblock}
use Rattle.cb_types.specs.declared.macroblock.MbKind.{MbKind}
use Rattle.cb_types.specs.declared.macroblock.MbKind.TheVariants.{Skip}
use Rattle.cb_types.specs.declared.macroblock.Vector.{Vector}
use Rattle.cb_types.specs.declared.mark.MbMark.{MbMark}
use Rattle.mv_pred.specs.Neighbours.{no_motion}
use Rattle.mv_pred.specs.declared.near.Near.{Near}
use Rattle.mv_pred.specs.declared.near.Near.TheVariants.{Missing, Intra, Inter}
use Rattle.motion.specs.Kinds.{is_intra}
use Rattle.motion.specs.Partitions.{partition_of}
use Rattle.motion.specs.declared.around.Around.{Around}
use Rattle.motion.specs.declared.border.Border.{Border}

-- the macroblock of a number, and its mark, where there is one
abbrev pub no_macroblock : Macroblock
no_macroblock = record { kind = Skip; qp_delta = pos 0; luma_dc = []; luma = []; chroma_dc = []; chroma = [] }

abbrev pub macroblock_at : List Macroblock → ℕ → Macroblock
macroblock_at macroblocks number = slice_index_or macroblocks number no_macroblock

abbrev pub no_mark : MbMark
no_mark = record { slice = 0; intra = false; pcm = false; qp = 0; idc = 0; alpha = pos 0; beta = pos 0; coded = []; pictures = []; vectors = [] }

abbrev pub mark_at : List MbMark → ℕ → MbMark
mark_at marks number = slice_index_or marks number no_mark

-- the vector of a block
abbrev pub vector_at : List Vector → ℕ → Vector
vector_at vectors block = slice_index_or vectors block no_motion

-- what a block tells of a macroblock of this kind with these vectors
unfoldable pub near_of : MbKind → List Vector → ℕ → Near
near_of kind vectors block = if is_intra kind then Intra else Inter (partition_of kind block).reference (vector_at vectors block)

-- what a block tells of a neighbour; nothing where the neighbour isn't available
abbrev pub near_in : List Macroblock → List MbMark → Option ℕ → ℕ → Near
near_in macroblocks marks None block = Missing
near_in macroblocks marks (Some number) block = near_of (macroblock_at macroblocks number).kind (mark_at marks number).vectors block

-- the blocks beside a macroblock: the last column of A, the last row of B, the block of C below on the left, the last block of D
unfoldable pub border_of : List Macroblock → List MbMark → Around → Border
border_of macroblocks marks around =
    let near = near_in macroblocks marks in
    record {
      left = near around.left (block_at 3 0) ∷ near around.left (block_at 3 1) ∷ near around.left (block_at 3 2) ∷ near around.left (block_at 3 3) ∷ [];
      above = near around.above (block_at 0 3) ∷ near around.above (block_at 1 3) ∷ near around.above (block_at 2 3) ∷ near around.above (block_at 3 3) ∷ [];
      right = near around.above_right (block_at 0 3);
      corner = near around.above_left (block_at 3 3);
    }
