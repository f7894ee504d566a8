use Rattle.std.proofs.Common.{◌≡◌, ◌+◌, ◌*◌, pos, ◌-ℤ◌, to_z, of_z, w64, ◌≤◌, length, ◌∙◌, arith}
use Rattle.std.proofs.lemmas.Int.{ints}
use Rattle.std.proofs.lemmas.Nat.{mul-le}
use Rattle.std.proofs.lemmas.List.{length-take-le}
use Rattle.inter_pred.proofs.Shown.{means_shown, rect_shows, row_within, shows_same}
use Rattle.inter_pred.proofs.quarters.predict.Goals as goal

pub fill_all-requires-in_default-clause-room : goal.fill_all-requires-in_default-clause-room
fill_all-requires-in_default-clause-room c r lt =
    let columns = c.args.width + 5 in
    let rows = c.args.height + 5 in
    let few : columns * rows ≤ 441 = mul-le columns rows 21 21 (omega arith) (omega arith) in
    let count : length c.clamped_rect.new.into ≡ columns * rows = c.clamped_rect.auto.into ∙ length-take-le _ _ few in
    omega (arith, row_within columns rows (length c.clamped_rect.new.into) r count lt)

pub returns-in-Some : goal.returns-in-Some
returns-in-Some c i j across down =
    let w = c.args.width in
    let h = c.args.height in
    let left : to_z w64 (of_z w64 (to_z w64 (of_z w64 c.args.column) -ℤ pos 2)) ≡ c.args.column -ℤ pos 2 = omega (arith, ints) in
    let top : to_z w64 (of_z w64 (to_z w64 (of_z w64 c.args.row) -ℤ pos 2)) ≡ c.args.row -ℤ pos 2 = omega (arith, ints) in
    let shows = shows_same c.args.plane.now (c.args.column -ℤ pos 2) (c.args.row -ℤ pos 2) _ _ (w + 5) (h + 5) c.args.plane.now.width c.width-stride.result c.in-Some.window.now left top c.width-stride.ensures.width c.in-Some.ensures in
    c.fill_all.ensures i j across down ∙ means_shown c.args.plane.now c.args.column c.args.row w h c.width-stride.result c.in-Some.window.now c.args.parts shows i j across down

pub returns-in_default : goal.returns-in_default
returns-in_default c i j across down =
    let w = c.args.width in
    let h = c.args.height in
    let left : to_z w64 (of_z w64 (to_z w64 (of_z w64 c.args.column) -ℤ pos 2)) ≡ c.args.column -ℤ pos 2 = omega (arith, ints) in
    let top : to_z w64 (of_z w64 (to_z w64 (of_z w64 c.args.row) -ℤ pos 2)) ≡ c.args.row -ℤ pos 2 = omega (arith, ints) in
    let few : (w + 5) * (h + 5) ≤ 441 = mul-le (w + 5) (h + 5) 21 21 (omega arith) (omega arith) in
    let count : length c.clamped_rect.new.into ≡ (w + 5) * (h + 5) = c.clamped_rect.auto.into ∙ length-take-le _ _ few in
    let shows = rect_shows c.args.plane.now (c.args.column -ℤ pos 2) (c.args.row -ℤ pos 2) _ _ (w + 5) (h + 5) c.clamped_rect.new.into left top count c.clamped_rect.ensures in
    c.fill_all-in_default.ensures i j across down ∙ means_shown c.args.plane.now c.args.column c.args.row w h (w + 5) c.clamped_rect.new.into c.args.parts shows i j across down
