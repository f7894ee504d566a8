-- H.264, 9.2.1: nC, from the numbers of levels of the blocks to the left and above. A block is available where it is of the
-- same slice. The blocks of a macroblock are a list in the order in which they are spelled, 27 in all: the DC block of
-- Intra16x16, the 16 luma blocks, the DC blocks of Cb and Cr, and the four AC blocks of Cb and of Cr.
use Rattle.std.specs.Prelude.{ℕ, ◌+◌, ◌-◌, ◌*◌, ◌/◌, ◌%◌, nat_lt, ◌==◌, if◌then◌else◌, List, [], ◌∷◌, ◌++◌, map, replicate, slice_index_or, Option, Some, None, ℤ, pos, negsuc}
use Rattle.std.specs.List.{flat_map}
use Rattle.std.specs.Option.{option_map}
use Rattle.cb_types.specs.Blocks.{block_at, block_column, block_row}
use Rattle.cb_types.specs.declared.macroblock.ChromaLevels.{ChromaLevels}
use Rattle.cb_types.specs.declared.macroblock.DcLevels.{DcLevels}
use Rattle.cb_types.specs.declared.macroblock.Levels.{Levels}
use Rattle.cb_types.specs.declared.macroblock.Macroblock.{Macroblock}
use Rattle.cavlc.specs.Coefficients.{total_coeff}
use Rattle.mb_syntax.specs.Kinds.{is_pcm}
use Rattle.mb_syntax.specs.Slice.{above, left_of}
use Rattle.mb_syntax.specs.declared.slice.Slice.{Slice}

abbrev pub block_of : Levels → List ℤ
block_of levels = levels.0

-- the DC levels of Cb or Cr, as a block of 16
abbrev pub dc_block : DcLevels → List ℤ
dc_block levels = levels.0 ++ replicate 12 (pos 0)

abbrev pub chroma_blocks : ChromaLevels → List (List ℤ)
chroma_blocks levels = map block_of levels.0

-- the blocks of a macroblock in the order in which they are spelled
abbrev pub blocks_of : Macroblock → List (List ℤ)
blocks_of mb = mb.luma_dc ∷ (map block_of mb.luma ++ map dc_block mb.chroma_dc ++ flat_map chroma_blocks mb.chroma)

-- the place in that order of a luma block, and of an AC block of Cb (plane 0) or Cr (plane 1)
abbrev pub luma_place : ℕ → ℕ
luma_place block = 1 + block

abbrev pub chroma_place : ℕ → ℕ → ℕ
chroma_place plane block = 19 + 4 * plane + block

-- the levels of the block at a place in that order, 0 where it isn't coded
abbrev pub total_at : List (List ℤ) → ℕ → ℕ
total_at blocks place = total_coeff (slice_index_or blocks place [])

-- what the blocks of a macroblock count for its neighbours: those of I_PCM count 16 each
abbrev pub count_in : Macroblock → ℕ → ℕ
count_in mb place = if is_pcm mb.kind then 16 else total_at (blocks_of mb) place

-- nC from what the blocks to the left and above count, where they are available
abbrev pub mean : Option ℕ → Option ℕ → ℕ
mean (Some left) (Some above) = (left + above + 1) / 2
mean (Some left) None = left
mean None (Some above) = above
mean None None = 0

-- the counts beside a luma block of the macroblock behind these of the slice, of which these blocks are spelled before
unfoldable pub luma_left : Slice → List Macroblock → List (List ℤ) → ℕ → Option ℕ
luma_left slice before blocks block =
    if block_column block == 0
    then option_map (λ mb. count_in mb (luma_place (block_at 3 (block_row block)))) (left_of slice before)
    else Some (total_at blocks (luma_place (block_at (block_column block - 1) (block_row block))))

unfoldable pub luma_above : Slice → List Macroblock → List (List ℤ) → ℕ → Option ℕ
luma_above slice before blocks block =
    if block_row block == 0
    then option_map (λ mb. count_in mb (luma_place (block_at (block_column block) 3))) (above slice before)
    else Some (total_at blocks (luma_place (block_at (block_column block) (block_row block - 1))))

-- those beside a chroma block, of which two stand across and two down
unfoldable pub chroma_left : Slice → List Macroblock → List (List ℤ) → ℕ → ℕ → Option ℕ
chroma_left slice before blocks plane block =
    if block % 2 == 0
    then option_map (λ mb. count_in mb (chroma_place plane (block + 1))) (left_of slice before)
    else Some (total_at blocks (chroma_place plane (block - 1)))

unfoldable pub chroma_above : Slice → List Macroblock → List (List ℤ) → ℕ → ℕ → Option ℕ
chroma_above slice before blocks plane block =
    if nat_lt block 2
    then option_map (λ mb. count_in mb (chroma_place plane (block + 2))) (above slice before)
    else Some (total_at blocks (chroma_place plane (block - 2)))

abbrev pub luma_nc : Slice → List Macroblock → List (List ℤ) → ℕ → ℤ
luma_nc slice before blocks block = pos (mean (luma_left slice before blocks block) (luma_above slice before blocks block))

abbrev pub chroma_nc : Slice → List Macroblock → List (List ℤ) → ℕ → ℕ → ℤ
chroma_nc slice before blocks plane block =
    pos (mean (chroma_left slice before blocks plane block) (chroma_above slice before blocks plane block))

-- nC of the block at this place: the DC block of Intra16x16 has that of luma block 0, and those of chroma have -1
unfoldable pub nc_at : Slice → List Macroblock → List (List ℤ) → ℕ → ℤ
nc_at slice before blocks place =
    if place == 0 then luma_nc slice before blocks 0
    else (if nat_lt place 17 then luma_nc slice before blocks (place - 1)
    else (if nat_lt place 19 then negsuc 0
    else chroma_nc slice before blocks ((place - 19) / 4) ((place - 19) % 4)))
