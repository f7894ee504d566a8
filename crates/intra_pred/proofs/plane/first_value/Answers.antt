use Rattle.std.proofs.Common.{◌≡◌, ◌+◌, ◌*◌, ◌^◌, ◌≤◌, ◌∙◌, arith}
use Rattle.intra_pred.proofs.Slopes.{IsFirst, IsWithin, first_is, first_value, within_step}
use Rattle.intra_pred.proofs.plane.first_value.Goals as goal

pub overflow_add-result-2 : goal.overflow_add-result-2
overflow_add-result-2 c =
    let small : 16 * (c.from.result + c.from-2.result) ≤ 8160 = omega arith in
    let across : IsWithin (7 * 2 ^ 14) c.back.result = record { least = c.back.ensures.low; most = c.back.ensures.high } in
    let down : IsWithin (7 * 2 ^ 14) c.back-2.result = record { least = c.back-2.ensures.low; most = c.back-2.ensures.high } in
    (first_is _ _ _ small across down).second_fits

pub overflow_add-result-3 : goal.overflow_add-result-3
overflow_add-result-3 c =
    let small : 16 * (c.from.result + c.from-2.result) ≤ 8160 = omega arith in
    let across : IsWithin (7 * 2 ^ 14) c.back.result = record { least = c.back.ensures.low; most = c.back.ensures.high } in
    let down : IsWithin (7 * 2 ^ 14) c.back-2.result = record { least = c.back-2.ensures.low; most = c.back-2.ensures.high } in
    (first_is _ _ _ small across down).third_fits

pub returns : goal.returns
returns c =
    let small : 16 * (c.from.result + c.from-2.result) ≤ 8160 = omega arith in
    let across : IsWithin (7 * 2 ^ 14) c.back.result = record { least = c.back.ensures.low; most = c.back.ensures.high } in
    let down : IsWithin (7 * 2 ^ 14) c.back-2.result = record { least = c.back-2.ensures.low; most = c.back-2.ensures.high } in
    let first : IsFirst (16 * (c.from.result + c.from-2.result)) c.back.result c.back-2.result = first_is _ _ _ small across down in
    let ends : 16 * (c.from.result + c.from-2.result) ≡ 16 * (c.args.left + c.args.top) = omega arith in
    record {
      value = first.is ∙ first_value c.args.half _ _ _ _ c.args.across c.args.down ends (within_step _ c.requires.across) (within_step _ c.requires.down) c.back.ensures.value c.back-2.ensures.value;
      low = first.within.least;
      high = first.within.most;
    }
