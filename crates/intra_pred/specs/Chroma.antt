-- The samples of a predicted 8x8 chroma block (H.264, 8.3.4, 4:2:0).
use Rattle.std.specs.Prelude.{ℕ, ◌*◌, ◌/◌, ◌==◌, nat_lt, if◌then◌else◌, is_some, List, take, drop, Option, None, slice_index}
use Rattle.std.specs.Option.{option_map, unwrap_or}
use Rattle.intra_pred.specs.Means.{side_mean}
use Rattle.intra_pred.specs.Plane.{plane_at}
use Rattle.intra_pred.specs.Sides.{given}

-- the four samples of a side beside its first or its second 4x4 block
abbrev pub part : ℕ → Option (List ℕ) → Option (List ℕ)
part k side = option_map (λ s. take 4 (drop (4 * k) s)) side

-- DC: the 4x4 block in block column i of block row j (8.3.4.1). The blocks off the diagonal prefer one side
abbrev pub block_mean : Option (List ℕ) → Option (List ℕ) → ℕ → ℕ → ℕ
block_mean left top i j =
    let l = part j left in
    let t = part i top in
    if i == j then side_mean 4 l t
    else if nat_lt j i then (if is_some t then side_mean 4 None t else side_mean 4 l None)
    else (if is_some l then side_mean 4 l None else side_mean 4 None t)

-- the predicted sample in a column of a row. Of a missing side no sample is used
unfoldable pub sample_chroma : ℕ → Option (List ℕ) → Option (List ℕ) → Option ℕ → ℕ → ℕ → ℕ
sample_chroma mode left top corner x y =
    if mode == 0 then block_mean left top (x / 4) (y / 4)
    else if mode == 1 then slice_index (given left) y
    else if mode == 2 then slice_index (given top) x
    else plane_at 4 34 (given left) (given top) (unwrap_or corner 0) x y
