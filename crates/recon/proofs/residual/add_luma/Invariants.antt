use Rattle.std.proofs.Common.{◌≡◌, ℕ, ◌/◌, ◌<◌, cond, ltb}
use Rattle.cb_types.specs.Blocks.{block_at}
use Rattle.vd_plane.specs.Tiles.{sample_in_rows}
use Rattle.recon.specs.Residuals.{constructed, luma_residual}
use Rattle.recon.proofs.residual.add_luma.Given as goal

abbrev pub invariant-loop-block : goal.invariant-loop-block
invariant-loop-block l = (x y : ℕ) → x < 16 → y < 16 → sample_in_rows 16 l.luma x y ≡
    cond (ltb (block_at (x / 4) (y / 4)) l.block) (constructed (sample_in_rows 16 l.initial.luma x y) (luma_residual l.macroblock l.qp x y)) (sample_in_rows 16 l.initial.luma x y)
