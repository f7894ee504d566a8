use Rattle.std.proofs.Common.{◌+◌, ◌*◌, ◌≤◌, ◌∙◌, arith}
use Rattle.std.proofs.lemmas.List.{length-take-le}
use Rattle.std.proofs.lemmas.Nat.{mul-le}
use Rattle.inter_pred.proofs.Parted.{centre_at, sums_bound}
use Rattle.inter_pred.proofs.blocks.centres.Goals as goal

pub returns : goal.returns
returns c i j across down =
    c.centre_rows.ensures i j across down
    ∙ centre_at c.args.window.now c.sum_rows.new.sums c.args.width c.args.stride i j c.type_inv.window (λ t le. c.sum_rows.ensures i (j + t) across (omega arith))

pub centre_rows-requires-clause-bound : goal.centre_rows-requires-clause-bound
centre_rows-requires-clause-bound c =
    let rows = c.args.height + 5 in
    let few : c.args.width * rows ≤ 336 = mul-le c.args.width rows 16 21 (omega arith) (omega arith) in
    sums_bound c.args.window.now c.sum_rows.new.sums c.args.width rows c.args.stride c.type_inv.window (c.sum_rows.auto.sums ∙ length-take-le _ _ few) c.sum_rows.ensures
