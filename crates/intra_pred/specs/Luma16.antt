-- The samples of a predicted 16x16 luma block (H.264, 8.3.3).
use Rattle.std.specs.Prelude.{ℕ, ◌==◌, if◌then◌else◌, List, Option, slice_index}
use Rattle.std.specs.Option.{unwrap_or}
use Rattle.intra_pred.specs.Means.{side_mean}
use Rattle.intra_pred.specs.Plane.{plane_at}
use Rattle.intra_pred.specs.Sides.{given}

-- the predicted sample in a column of a row. Of a missing side no sample is used
unfoldable pub sample16 : ℕ → Option (List ℕ) → Option (List ℕ) → Option ℕ → ℕ → ℕ → ℕ
sample16 mode left top corner x y =
    if mode == 0 then slice_index (given top) x
    else if mode == 1 then slice_index (given left) y
    else if mode == 2 then side_mean 16 left top
    else plane_at 8 5 (given left) (given top) (unwrap_or corner 0) x y
