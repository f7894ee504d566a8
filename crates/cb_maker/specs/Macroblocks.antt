-- A macroblock, drawn (H.264, 7.3.5).
use Rattle.std.specs.Prelude.{ℕ, if◌then◌else◌, ℤ, pos}
use Rattle.cb_types.specs.declared.macroblock.Macroblock.{Macroblock}
use Rattle.cb_types.specs.declared.macroblock.MbKind.{MbKind}
use Rattle.mb_syntax.specs.Kinds.{has_qp_delta, is_skip}
use Rattle.mb_syntax.specs.SliceData.{skipped}
use Rattle.mb_syntax.specs.declared.slice.Slice.{Slice}
use Rattle.cb_maker.specs.Blocks.{drawn_block, drawn_chroma, drawn_dc, drawn_luma}
use Rattle.cb_maker.specs.Draws.{Drawn, Made, ◌>>=◌, draw_around, each_below}
use Rattle.cb_maker.specs.Kinds.{drawn_kind}

-- mb_qp_delta, 0 where it isn't spelled
unfoldable pub drawn_qp_delta : MbKind → Drawn ℤ
drawn_qp_delta kind = if has_qp_delta kind then draw_around 2 else Made (pos 0)

-- what a macroblock of this kind has beside it
unfoldable pub drawn_of_kind : MbKind → Drawn Macroblock
drawn_of_kind kind = do
  qp_delta ← drawn_qp_delta kind
  luma_dc ← drawn_block kind 0
  luma ← each_below 16 (drawn_luma kind)
  chroma_dc ← each_below 2 (drawn_dc kind)
  chroma ← each_below 2 (drawn_chroma kind)
  Made (record {
    kind = kind;
    qp_delta = qp_delta;
    luma_dc = luma_dc;
    luma = luma;
    chroma_dc = chroma_dc;
    chroma = chroma;
  })

-- the macroblock of the slice with this address
unfoldable pub drawn_macroblock : Slice → ℕ → Drawn Macroblock
drawn_macroblock slice mb = do
  kind ← drawn_kind slice mb
  if is_skip kind then Made skipped else drawn_of_kind kind
