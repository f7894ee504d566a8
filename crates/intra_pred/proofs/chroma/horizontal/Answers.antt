use Rattle.std.proofs.Common.{get_or, replicate, arith}
use Rattle.std.proofs.lemmas.List.{get_or-replicate}
use Rattle.intra_pred.proofs.Places.{row_more}
use Rattle.intra_pred.proofs.chroma.horizontal.Goals as goal

pub loop-y-preserved : goal.loop-y-preserved
loop-y-preserved c =
    let left = c.args.left in
    let y = c.loop-y.y in
    let more = row_more 8 y 0 (λ x y. get_or left y 0) c.put_row.new.block c.loop-y.block (replicate 8 (get_or left y 0)) c.put_row.ensures (λ x y hx low hy. c.loop-y.invariant x y hx hy) (λ x h. get_or-replicate 8 x (get_or left y 0) 0 h) in
    λ x y hx hy. more x y hx (omega arith) hy
