use Rattle.std.proofs.Common.{◌≡◌, ◌+◌, ◌*◌, to_z, of_z, w64, get_or, ap, arith}
use Rattle.std.proofs.lemmas.Int.{ints}
use Rattle.inter_pred.proofs.eighths.predict.Goals as goal

pub returns-in_default : goal.returns-in_default
returns-in_default c i j across down =
    let n = c.args.width + 1 in
    let xs = c.clamped_rect.new.into in
    let left : to_z w64 (of_z w64 c.args.column) ≡ c.args.column = omega (arith, ints) in
    let top : to_z w64 (of_z w64 c.args.row) ≡ c.args.row = omega (arith, ints) in
    let p = c.clamped_rect.ensures i j (omega arith) (omega arith) in
    let q = c.clamped_rect.ensures (i + 1) j (omega arith) (omega arith) in
    let r = c.clamped_rect.ensures i (j + 1) (omega arith) (omega arith) in
    let s = c.clamped_rect.ensures (i + 1) (j + 1) (omega arith) (omega arith) in
    let new = c.eighth_rows-in_default.ensures i j across down in
    let right : get_or xs (j * n + i + 1) 0 ≡ get_or xs (j * n + (i + 1)) 0 = ap (λ k. get_or xs k 0) (omega arith) in
    let below : get_or xs (j * n + i + n) 0 ≡ get_or xs ((j + 1) * n + i) 0 = ap (λ k. get_or xs k 0) (omega arith) in
    let both : get_or xs (j * n + i + n + 1) 0 ≡ get_or xs ((j + 1) * n + (i + 1)) 0 = ap (λ k. get_or xs k 0) (omega arith) in
    cc
