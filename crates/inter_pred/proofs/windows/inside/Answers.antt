use Rattle.std.proofs.Common.{◌≡◌, ◌≤◌, ◌+◌, length, to_z, of_z, w64, pos, arith, refl}
use Rattle.std.specs.Prelude.{unsigned_abs}
use Rattle.std.proofs.lemmas.Int.{ints}
use Rattle.inter_pred.proofs.Shown.{begins_within, inside_shows}
use Rattle.inter_pred.proofs.windows.inside.Goals as goal

pub slice_bounds-result-count : goal.slice_bounds-result-count
slice_bounds-result-count c =
    let left = unsigned_abs (to_z w64 (of_z w64 c.args.column)) in
    let top = unsigned_abs (to_z w64 (of_z w64 c.args.row)) in
    begins_within c.args.plane.now.width c.args.plane.now.height c.width-stride.result left top c.args.columns c.args.rows (length c.samples.result.now) c.width-stride.ensures.width c.samples.ensures.count (omega arith) (omega arith) (omega arith)

pub slice_bounds-result-start : goal.slice_bounds-result-start
slice_bounds-result-start c =
    let left = unsigned_abs (to_z w64 (of_z w64 c.args.column)) in
    let top = unsigned_abs (to_z w64 (of_z w64 c.args.row)) in
    begins_within c.args.plane.now.width c.args.plane.now.height c.width-stride.result left top c.args.columns c.args.rows (length c.samples.result.now) c.width-stride.ensures.width c.samples.ensures.count (omega arith) (omega arith) (omega arith)

pub returns : goal.returns
returns c =
    let left = unsigned_abs (to_z w64 (of_z w64 c.args.column)) in
    let top = unsigned_abs (to_z w64 (of_z w64 c.args.row)) in
    let is_left : c.args.column ≡ pos left = omega (arith, ints) in
    let is_top : c.args.row ≡ pos top = omega (arith, ints) in
    let across : left + c.args.columns ≤ c.args.plane.now.width = omega arith in
    let down : top + c.args.rows ≤ c.args.plane.now.height = omega arith in
    rw (c.samples.ensures.samples, c.width-stride.ensures.width) (inside_shows c.args.plane.now c.args.column c.args.row left top c.args.columns c.args.rows _ c.width-stride.ensures.plane is_left is_top across down refl)
