use Rattle.std.proofs.Common.{◌≡◌, ℕ, ◌/◌, ◌<◌, true}
use Rattle.cb_types.specs.Blocks.{block_at}
use Rattle.vd_plane.specs.Tiles.{sample_in_rows}
use Rattle.recon.specs.Intra.{has_sides, intra4_sample}
use Rattle.recon.specs.Residuals.{block_residual, constructed}
use Rattle.recon.proofs.intra.intra4.Given as goal

abbrev pub invariant-loop-block : goal.invariant-loop-block
invariant-loop-block l = record {
  available : (block : ℕ) → block < l.block → has_sides l.edges l.modes.0 block ≡ true;
  samples : (x y : ℕ) → x < 16 → y < 16 → block_at (x / 4) (y / 4) < l.block → sample_in_rows 16 l.luma x y ≡ constructed (intra4_sample l.edges l.modes.0 l.luma x y) (block_residual l.blocks l.qp x y);
}
