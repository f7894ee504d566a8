use Rattle.std.proofs.Common.{◌+◌, ◌-◌, ◌*◌, ◌≡◌, ◌≤◌, ℕ, cond, get_or, sym, ap, ◌∙◌, arith}
use Rattle.std.proofs.lemmas.Nat.{mul-le}
use Rattle.vd_plane.specs.SampleArray.{array_of, covers, number_in, rect_at, sample}
use Rattle.vd_plane.proofs.Rects.{rect_more}
use Rattle.recon.proofs.BlockPlaces.{sample_is_in_rows}
use Rattle.recon.proofs.rect.put_rect.Goals as goal

pub overflow_add-start : goal.overflow_add-start
overflow_add-start c =
    let rows = c.args.y + c.args.height in
    omega (arith, mul-le rows 1 rows c.args.stride (omega arith) c.requires.some)

pub loop-row-preserved : goal.loop-row-preserved
loop-row-preserved c =
    let rows = c.args.y + c.args.height in
    let place = c.loop-row.row * c.args.width in
    let j = place + c.args.width - place in
    let down : (c.args.y + c.loop-row.row + 1) * c.args.stride ≤ rows * c.args.stride =
    mul-le (c.args.y + c.loop-row.row + 1) c.args.stride rows c.args.stride (omega arith) (omega arith) in
    λ h x' y'. rect_more c.args.stride h c.args.x c.args.y c.args.width c.loop-row.row _ j c.loop-row.into c.args.into.now c.args.from.now c.copy_from_slice.new.self c.requires.across (omega arith) (omega arith) (omega arith) (omega arith) c.copy_from_slice.ensures.after x' y' (c.loop-row.invariant h x' y')

pub returns : goal.returns
returns c =
    let stride : ℕ = c.args.stride in
    λ x' y' lt.
    let old = sample_is_in_rows stride 0 x' y' c.args.into.now lt in
    let new = sample_is_in_rows stride 0 x' y' c.loop-row.into lt in
    let last : c.loop-row.row ≡ c.args.height = omega arith in
    sym new ∙ (c.loop-row.invariant 0 x' y'
    ∙ (ap (λ n. cond (covers (rect_at c.args.x c.args.y c.args.width n) x' y') (get_or c.args.from.now (number_in (rect_at c.args.x c.args.y c.args.width n) x' y') 0) (sample (array_of stride 0 c.args.into.now) x' y')) last
    ∙ ap (λ z. cond (covers (rect_at c.args.x c.args.y c.args.width c.args.height) x' y') (get_or c.args.from.now (number_in (rect_at c.args.x c.args.y c.args.width c.args.height) x' y') 0) z) old))
