use Rattle.std.proofs.Common.{pos, get_or, arith, rules}
use mir.Syntax.{w32}
use mir.Val.{SFits}
use Rattle.std.proofs.lemmas.Int.{ints}
use Rattle.marking.proofs.CountLemmas.{total_end, total_next}
use Rattle.marking.proofs.cycles.total.Goals as goal

pub loop-offset-preserved : goal.loop-offset-preserved
loop-offset-preserved c =
    let xs = c.args.offsets.now in
    let k = c.loop-offset.offset-index in
    let x = get_or xs k (pos 0) in
    let fits : SFits w32 x = search rules in
    let before = c.loop-offset.invariant in
    let value = before.value in
    let least = before.least in
    let most = before.most in
    let next = total_next xs k (pos 0) c.loop-offset-test.true in
    record {
      value = omega (arith, ints);
      least = omega (arith, ints);
      most = omega (arith, ints);
    }

pub returns-clause-value : goal.returns-clause-value
returns-clause-value c =
    let xs = c.args.offsets.now in
    let value = c.loop-offset.invariant.value in
    let end = total_end xs c.loop-offset.offset-index c.loop-offset-test.false in
    omega (arith, ints)
