use Rattle.std.proofs.Common.{◌≡◌, ℕ, ◌+◌, ◌*◌, ◌%◌, ◌<◌, cond}
use Rattle.int_transform.specs.Scan.{value_at}
use Rattle.vd_plane.specs.Tiles.{sample_in_rows}
use Rattle.recon.specs.Residuals.{constructed}
use Rattle.recon.proofs.BlockPlaces.{in_rows_of}
use Rattle.recon.proofs.residual.add_values.Given as goal

abbrev pub invariant-loop-y : goal.invariant-loop-y
invariant-loop-y l = (x y : ℕ) → x < l.stride → sample_in_rows l.stride l.samples x y ≡
    cond (in_rows_of l.column l.row l.y x y) (constructed (sample_in_rows l.stride l.initial.samples x y) (value_at l.values (4 * (y % 4) + x % 4))) (sample_in_rows l.stride l.initial.samples x y)
