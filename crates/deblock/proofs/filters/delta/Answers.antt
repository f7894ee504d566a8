use Rattle.std.proofs.Common.{arith, rules, FitsSigned, w32}
use Rattle.std.proofs.lemmas.Int.{ints}
use Rattle.deblock.proofs.Sums.{delta_is}
use Rattle.deblock.proofs.filters.delta.Goals as goal

pub overflow_add-step-2 : goal.overflow_add-step-2
overflow_add-step-2 c = omega (arith, ints)

pub returns-clause-value : goal.returns-clause-value
returns-clause-value c =
    let fits : FitsSigned w32 c.clamp.result = search rules in
    delta_is c.args.tc c.args.p1 c.args.p0 c.args.q0 c.args.q1 c.from.result c.from-2.result c.from-3.result c.from-4.result c.clamp.result c.requires (omega arith) (omega arith) (omega arith) (omega arith) c.from.ensures c.from-2.ensures c.from-3.ensures c.from-4.ensures fits c.clamp.ensures.value
