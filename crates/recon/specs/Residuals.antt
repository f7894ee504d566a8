-- The residual of a macroblock at each of its samples. H.264, 8.5.
use Rattle.std.specs.Prelude.{◌≡◌, ℕ, ◌+◌, ◌*◌, ◌/◌, ◌%◌, List, [], slice_index_or, Option, Some, None, ℤ, pos, ◌+ℤ◌}
use Rattle.cb_types.specs.Blocks.{block_at}
use Rattle.cb_types.specs.declared.macroblock.DcLevels.{DcLevels}
use Rattle.cb_types.specs.declared.macroblock.Levels.{Levels}
use Rattle.cb_types.specs.declared.macroblock.Macroblock.{Macroblock}
use Rattle.cb_types.specs.declared.macroblock.MbKind.{MbKind}
use Rattle.cb_types.specs.declared.macroblock.MbKind.TheVariants.{Skip, Pcm, Intra4, Intra16, Whole, Wide, Tall, Four, FourFirst}
use Rattle.int_transform.specs.DcBlocks.{chroma_dc_at, luma_dc_at}
use Rattle.int_transform.specs.Residual.{residual_at}
use Rattle.intra_pred.specs.Means.{clipped}

-- the levels of a block
abbrev pub levels_at : List Levels → ℕ → List ℤ
levels_at blocks block = (slice_index_or blocks block (record { 0 = [] })).0

-- the DC value of the luma block in a column and a row, which Intra16x16 gives apart
abbrev pub luma_dc_of : MbKind → List ℤ → ℕ → ℕ → ℕ → Option ℤ
luma_dc_of Skip levels qp column row = None
luma_dc_of (Pcm samples) levels qp column row = None
luma_dc_of (Intra4 modes chroma pattern) levels qp column row = None
luma_dc_of (Intra16 mode chroma pattern) levels qp column row = Some (luma_dc_at levels qp row column)
luma_dc_of (Whole part pattern) levels qp column row = None
luma_dc_of (Wide parts pattern) levels qp column row = None
luma_dc_of (Tall parts pattern) levels qp column row = None
luma_dc_of (Four subs pattern) levels qp column row = None
luma_dc_of (FourFirst subs pattern) levels qp column row = None

-- the residual in column x of row y of luma blocks without a DC value apart
abbrev pub block_residual : List Levels → ℕ → ℕ → ℕ → ℤ
block_residual blocks qp x y = residual_at (levels_at blocks (block_at (x / 4) (y / 4))) None qp (y % 4) (x % 4)

-- the residual in column x of row y of the luma
abbrev pub luma_residual : Macroblock → ℕ → ℕ → ℕ → ℤ
luma_residual mb qp x y =
    residual_at (levels_at mb.luma (block_at (x / 4) (y / 4))) (luma_dc_of mb.kind mb.luma_dc qp (x / 4) (y / 4)) qp (y % 4) (x % 4)

-- the residual in column x of row y of Cb or Cr, from its DC levels and its blocks, which stand two across and two down
abbrev pub chroma_residual : DcLevels → List Levels → ℕ → ℕ → ℕ → ℤ
chroma_residual dc blocks qpc x y =
    residual_at (levels_at blocks (2 * (y / 4) + x / 4)) (Some (chroma_dc_at dc.0 qpc (y / 4) (x / 4))) qpc (y % 4) (x % 4)

-- the DC levels and the blocks of Cb (plane 0) or Cr (plane 1)
abbrev pub dc_of : Macroblock → ℕ → DcLevels
dc_of mb plane = slice_index_or mb.chroma_dc plane (record { 0 = [] })

abbrev pub chroma_of : Macroblock → ℕ → List Levels
chroma_of mb plane = (slice_index_or mb.chroma plane (record { 0 = [] })).0

-- no DC value apart, or one that is 0
abbrev pub HasNoDc : Option ℤ → Type 0
HasNoDc None = Unit {0}
HasNoDc (Some dc) = dc ≡ pos 0

-- 8.5.14: a constructed sample
abbrev pub constructed : ℕ → ℤ → ℕ
constructed prediction residual = clipped (pos prediction +ℤ residual)
