use Rattle.std.proofs.Common.{arith, rules}
use mir.Syntax.{w32}
use mir.Val.{SFits}
use Rattle.std.proofs.lemmas.Int.{clamps, ints}
use Rattle.marking.specs.Operations.{from_zero}
use Rattle.marking.proofs.counts.from_zero.Goals as goal

pub returns : goal.returns
returns c =
    let counts = c.args.counts in
    let top : SFits w32 counts.top = search rules in
    let bottom : SFits w32 counts.bottom = search rules in
    let least = c.least_count-least.ensures in
    c.counted.ensures (from_zero counts).top (from_zero counts).bottom (omega (arith, ints, clamps)) (omega (arith, ints, clamps))
