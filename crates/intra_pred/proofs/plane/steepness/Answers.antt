use Rattle.std.proofs.Common.{◌≡◌, suc, ◌+◌, ◌*◌, ◌<◌, ◌≤◌, ℤ, to_z, w32, arith}
use Rattle.intra_pred.proofs.Slopes.{IsWithin, steepness_is, sum_more, sum_within}
use Rattle.intra_pred.proofs.plane.steepness.Goals as goal

pub loop-k-preserved : goal.loop-k-preserved
loop-k-preserved c =
    let inv = c.loop-k.invariant in
    let half = c.args.half in
    let k = c.loop-k.k in
    let v : ℤ = to_z w32 c.loop-k.sum-bits in
    let before : k + 1 < half = omega arith in
    let most : half ≤ 8 = c.requires.most in
    let v_within : IsWithin (2040 * k) v = record { least = inv.1; most = inv.2 } in
    let w_within : IsWithin 2040 c.weighted-sum.result = record { least = c.weighted-sum.ensures.low; most = c.weighted-sum.ensures.high } in
    let more = sum_within k v _ (omega arith) v_within w_within in
    (sum_more half k c.args.side.now c.args.corner v _ before most v_within w_within inv.0 c.weighted-sum.ensures.value, more.least, more.most)

pub returns-clause-value : goal.returns-clause-value
returns-clause-value c =
    let inv = c.loop-k.invariant in
    let half = c.args.half in
    let k = c.loop-k.k in
    let v : ℤ = to_z w32 c.loop-k.sum-bits in
    let last : half ≡ suc k = omega arith in
    let v_within : IsWithin (2040 * k) v = record { least = inv.1; most = inv.2 } in
    let w_within : IsWithin 2040 c.weighted.result = record { least = c.weighted.ensures.low; most = c.weighted.ensures.high } in
    steepness_is half k c.args.side.now c.args.corner v _ last c.requires.most v_within w_within inv.0 c.weighted.ensures.value
