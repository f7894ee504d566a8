use Rattle.std.proofs.Common.{◌≡◌, ◌+◌, ◌*◌, ◌≤◌, ◌+ℤ◌, pos, length, arith, rules, to_z, of_z, w64, ap, ◌∙◌}
use Rattle.std.proofs.lemmas.Nat.{mul-le}
use Rattle.vd_plane.specs.SampleArray.{SampleArray, nearest, nearest_sample, sample}
use Rattle.vd_plane.proofs.Nearest.{row_nearest}
use Rattle.vd_plane.proofs.Rects.{rows_more}
use Rattle.vd_plane.proofs.plane.Plane.clamped_rect.Goals as goal

pub loop-row-preserved : goal.loop-row-preserved
loop-row-preserved c =
    let n = c.args.width in
    let r = c.loop-row.row in
    let down : (r + 1) * n ≤ n * c.args.height = omega (arith, mul-le (r + 1) n c.args.height n (omega arith) (omega arith)) in
    let x = to_z w64 (of_z w64 c.args.x) in
    let y = to_z w64 (of_z w64 c.args.y) in
    rows_more (λ x' y'. nearest_sample c.args.self.now (x +ℤ pos x') (y +ℤ pos y')) n r _ c.loop-row.into c.copy_clamped.new.into (omega arith) (omega arith) (omega arith) c.loop-row.invariant
    (λ x' inside.
    let row_is : c.nearest.result ≡ nearest c.self.inside.height (y +ℤ pos r) =
    row_nearest c.self.inside.height r c.nearest.result y c.saturating_add.result c.from.result (omega arith) (omega arith) (search rules) c.from.ensures c.saturating_add.ensures c.nearest.ensures.nearest in
    let height = ap (λ (a : SampleArray). a.height) c.self.view_is in
    c.copy_clamped.ensures x' (omega arith) ∙ (c.row-source.ensures.samples (nearest (length c.row-source.result.now) (x +ℤ pos x'))
    ∙ (ap (λ w. sample c.args.self.now (nearest w (x +ℤ pos x')) c.nearest.result) c.row-source.ensures.length
    ∙ (ap (λ m. sample c.args.self.now (nearest c.args.self.now.width (x +ℤ pos x')) m) row_is
    ∙ ap (λ h. sample c.args.self.now (nearest c.args.self.now.width (x +ℤ pos x')) (nearest h (y +ℤ pos r))) height))))
