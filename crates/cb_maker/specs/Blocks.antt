-- The blocks of levels of a macroblock, drawn in the order in which they are spelled (H.264, 7.3.5.3).
use Rattle.std.specs.Prelude.{ℕ, ◌+◌, ◌==◌, if◌then◌else◌, List, replicate, take, ℤ, pos}
use Rattle.cb_types.specs.declared.macroblock.ChromaLevels.{ChromaLevels}
use Rattle.cb_types.specs.declared.macroblock.DcLevels.{DcLevels}
use Rattle.cb_types.specs.declared.macroblock.Levels.{Levels}
use Rattle.cb_types.specs.declared.macroblock.MbKind.{MbKind}
use Rattle.mb_syntax.specs.Blocks.{is_coded, most_levels}
use Rattle.mb_syntax.specs.Counts.{chroma_place, luma_place}
use Rattle.slice_header.specs.Lists.{padded}
use Rattle.cb_maker.specs.Draws.{Drawn, Made, ◌>>=◌, draw, draw_around, each_below}

-- a level: three of four are 0
unfoldable pub drawn_level : Drawn ℤ
drawn_level = do
  zeros ← draw 4
  if zeros == 0 then draw_around 3 else Made (pos 0)

-- so many levels in scan order, and 0 at the other places
unfoldable pub drawn_levels : ℕ → Drawn (List ℤ)
drawn_levels count = do
  levels ← each_below count (λ place. drawn_level)
  Made (padded 16 (pos 0) levels)

-- the block at this place in the order of a macroblock's blocks: all 0 where it isn't coded
unfoldable pub drawn_block : MbKind → ℕ → Drawn (List ℤ)
drawn_block kind place =
    if is_coded kind place then drawn_levels (most_levels kind place) else Made (replicate 16 (pos 0))

abbrev pub drawn_4x4 : MbKind → ℕ → Drawn Levels
drawn_4x4 kind place = do
  block ← drawn_block kind place
  Made (record { 0 = block })

abbrev pub drawn_luma : MbKind → ℕ → Drawn Levels
drawn_luma kind block = drawn_4x4 kind (luma_place block)

-- of Cb (plane 0) or Cr
unfoldable pub drawn_dc : MbKind → ℕ → Drawn DcLevels
drawn_dc kind plane = do
  block ← drawn_block kind (17 + plane)
  Made (record { 0 = take 4 block })

unfoldable pub drawn_chroma : MbKind → ℕ → Drawn ChromaLevels
drawn_chroma kind plane = do
  blocks ← each_below 4 (λ block. drawn_4x4 kind (chroma_place plane block))
  Made (record { 0 = blocks })
