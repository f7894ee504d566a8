use Rattle.std.proofs.Common.{◌≡◌, ◌+◌, ◌*◌, ◌/◌, ◌≤◌, ◌∙◌, arith}
use Rattle.std.proofs.lemmas.Nat.{mul-le}
use Rattle.mixer.specs.Mixed.{mixed}
use Rattle.mixer.proofs.Pixels.{bytes_are_pixel, bytes_same, row_more}
use Rattle.mixer.proofs.mix.Goals as goal

pub loop-y-preserved : goal.loop-y-preserved
loop-y-preserved c =
    let picture = c.args.picture.now in
    let w = picture.y.width in
    let y = c.loop-y.y in
    let width : c.width.result ≡ w = c.width.ensures.width in
    let rows : (y + 1) * w ≤ picture.y.height * w = mul-le (y + 1) w picture.y.height w (omega arith) (omega arith) in
    rw width
    (row_more (mixed picture c.args.matrix.now c.args.format) w y _ c.loop-y.out c.mix_row.new.out (omega (arith, rows)) (omega arith) c.loop-y.invariant
    (λ x' lt.
    c.mix_row.ensures x' (omega (arith, lt, c.row.ensures.length))
    ∙ (bytes_same c.of-colours.result _ _ _ _ _ _ (c.row.ensures.samples x') (c.row-in-loop-y.ensures.samples (x' / 2)) (c.row-in-loop-y-2.ensures.samples (x' / 2))
    ∙ bytes_are_pixel c.args.matrix.now c.args.format c.of-colours.result _ _ _ c.of-colours.ensures.first c.of-colours.ensures.second c.of-colours.ensures.third)))
