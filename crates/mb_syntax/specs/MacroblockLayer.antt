-- H.264, 7.3.5: the codewords of a macroblock that isn't skipped, and which macroblocks have some.
use Rattle.std.specs.Prelude.{◌≡◌, ℕ, ◌-◌, ◌%◌, Bool, false, if◌then◌else◌, List, [], ◌++◌, length, All, ℤ, pos, negsuc, ◌≤ℤ◌}
use Rattle.bit_io.specs.Codewords.{se}
use Rattle.cb_types.specs.declared.macroblock.Macroblock.{Macroblock}
use Rattle.cb_types.specs.declared.macroblock.MbKind.{MbKind}
use Rattle.mb_syntax.specs.Blocks.{AreBlocks, residual_bits}
use Rattle.mb_syntax.specs.Counts.{blocks_of}
use Rattle.mb_syntax.specs.Kinds.{has_qp_delta}
use Rattle.mb_syntax.specs.Prediction.{IsKind, kind_bits}
use Rattle.mb_syntax.specs.declared.slice.Slice.{Slice}

-- mb_qp_delta
abbrev pub qp_delta_bits : MbKind → ℤ → List Bool
qp_delta_bits kind qp_delta = if has_qp_delta kind then se qp_delta else []

-- its values: 0 where it isn't spelled
pub record IsQpDelta (kind : MbKind) (qp_delta : ℤ) : Type 0 where
  pub least : negsuc 25 ≤ℤ qp_delta
  pub greatest : qp_delta ≤ℤ pos 25
  pub absent : has_qp_delta kind ≡ false → qp_delta ≡ pos 0

-- macroblock_layer: the macroblock behind these of the slice, from this place in the payload on
unfoldable pub mb_bits : Slice → ℕ → List Macroblock → Macroblock → List Bool
mb_bits slice place before mb =
    kind_bits slice place mb.kind ++ qp_delta_bits mb.kind mb.qp_delta ++ residual_bits slice before mb.kind (blocks_of mb)

-- The macroblock behind these of the slice has a spelling in macroblock_layer. What isn't spelled is 0.
pub record IsCoded (slice : Slice) (before : List Macroblock) (mb : Macroblock) : Type 0 where
  pub kind : IsKind slice mb.kind
  pub qp_delta : IsQpDelta mb.kind mb.qp_delta
  pub luma : length mb.luma ≡ 16
  pub chroma_dc : length mb.chroma_dc ≡ 2
  pub chroma_dc_levels : All (λ levels. length levels.0 ≡ 4) mb.chroma_dc
  pub chroma : length mb.chroma ≡ 2
  pub chroma_blocks : All (λ levels. length levels.0 ≡ 4) mb.chroma
  pub blocks : AreBlocks slice before mb.kind (blocks_of mb)

-- the place in the payload of these last bits of it, up to whole bytes
abbrev pub place_before : List Bool → ℕ
place_before bits = (8 - length bits % 8) % 8
