use Rattle.std.proofs.Common.{◌≡◌, ℕ, ◌+◌, ◌*◌, ◌/◌, ◌<◌, cond, ltb}
use Rattle.vd_plane.specs.Tiles.{sample_in_rows}
use Rattle.recon.specs.Residuals.{chroma_residual, constructed}
use Rattle.recon.proofs.residual.add_chroma.Given as goal

abbrev pub invariant-loop-block : goal.invariant-loop-block
invariant-loop-block l = (x y : ℕ) → x < 8 → y < 8 → sample_in_rows 8 l.chroma x y ≡
    cond (ltb (2 * (y / 4) + x / 4) l.block) (constructed (sample_in_rows 8 l.initial.chroma x y) (chroma_residual l.fn.dc l.blocks l.qp x y)) (sample_in_rows 8 l.initial.chroma x y)
