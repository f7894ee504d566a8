use borrow.Rule.Slice.PartMut.{mid_of}
use Rattle.std.proofs.lemmas.Nat.{mul-le}
use Rattle.std.proofs.Common.{◌≡◌, ◌+◌, ◌-◌, ◌*◌, ◌<◌, ◌≤◌, ℕ, ap, get_or, sym, ◌∙◌, arith}
use Rattle.int_transform.specs.Scan.{value_at}
use Rattle.recon.specs.Residuals.{constructed}
use Rattle.recon.proofs.BlockPlaces.{in_all_rows, in_no_row, row_added}
use Rattle.recon.proofs.Parts.{number_in_part, value_in_part}
use Rattle.recon.proofs.residual.add_values.Goals as goal

pub loop-y-init : goal.loop-y-init
loop-y-init c = λ x y lt. sym (in_no_row c.args.column c.args.row x y _ _)

pub loop-y-preserved : goal.loop-y-preserved
loop-y-preserved c =
    let n : ℕ = c.loop-y.y in
    let start : ℕ = (4 * c.args.row + n) * c.args.stride + 4 * c.args.column in
    let line : (j : ℕ) → j < 4 → get_or c.add_row.new.samples j 0 ≡ constructed (get_or c.loop-y.samples (start + j) 0) (value_at c.args.values.now (4 * n + j)) =
    λ j lt. c.add_row.ensures j lt
    ∙ (ap (λ z. constructed z (value_at (mid_of (4 * n) (4 * n + 4 - 4 * n) c.args.values.now) j)) (number_in_part c.loop-y.samples start (start + 4 - start) j (omega arith))
    ∙ ap (λ v. constructed (get_or c.loop-y.samples (start + j) 0) v) (value_in_part c.args.values.now (4 * n) (4 * n + 4 - 4 * n) j (omega arith))) in
    let down : (4 * c.args.row + n + 1) * c.args.stride ≤ (4 * c.args.row + 4) * c.args.stride =
    mul-le (4 * c.args.row + n + 1) c.args.stride (4 * c.args.row + 4) c.args.stride (omega arith) (omega arith) in
    λ x y inside. row_added c.args.stride c.args.column c.args.row n _ c.loop-y.samples c.args.samples.now c.add_row.new.samples c.args.values.now x y
    c.requires.across (omega arith) (omega arith) (omega arith) (omega arith) inside line (c.loop-y.invariant x y inside)

pub returns : goal.returns
returns c = λ x y lt. c.loop-y.invariant x y lt ∙ in_all_rows c.args.column c.args.row c.loop-y.y x y _ _ (omega arith)
