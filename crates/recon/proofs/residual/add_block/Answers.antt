use Rattle.std.proofs.Common.{◌+◌, ◌*◌, ◌%◌, ◌<◌, arith}
use Rattle.vd_plane.specs.Tiles.{sample_in_rows}
use Rattle.recon.proofs.ZeroResidual.{residual_zero, sample_stays, zeros_from_test}
use Rattle.recon.proofs.residual.add_block.Goals as goal

pub returns-then-is_zero : goal.returns-then-is_zero
returns-then-is_zero c =
    let none = c.if-is_zero.ensures in
    λ x y across.
    let small : sample_in_rows c.args.stride c.args.samples.now x y < 256 = omega (arith, c.type_inv.samples (c.args.stride * y + x)) in
    sample_stays _ _ _ small (residual_zero c.args.levels.now.0 c.args.dc c.args.qp (y % 4) (x % 4) (omega arith) (omega arith) (zeros_from_test c.args.levels.now.0 none.0) none.1)
