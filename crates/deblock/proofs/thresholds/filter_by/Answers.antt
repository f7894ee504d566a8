use Rattle.std.proofs.Common.{arith}
use Rattle.deblock.proofs.Tables.{alpha_most, tc0_most, strong_filter}
use Rattle.deblock.proofs.thresholds.filter_by.Goals as goal

pub returns-then-strength-eq4-clause-value : goal.returns-then-strength-eq4-clause-value
returns-then-strength-eq4-clause-value c = let e = strong_filter c.args.indexes.a c.args.indexes.b c.args.strength c.if-strength-eq4.true in cc

pub returns-then-strength-eq4-clause-alpha : goal.returns-then-strength-eq4-clause-alpha
returns-then-strength-eq4-clause-alpha c = omega (arith, c.alpha.ensures, alpha_most c.args.indexes.a c.requires.a)

pub returns-else-strength-eq4-clause-alpha : goal.returns-else-strength-eq4-clause-alpha
returns-else-strength-eq4-clause-alpha c = omega (arith, c.alpha.ensures, alpha_most c.args.indexes.a c.requires.a)

pub returns-else-strength-eq4-clause-tc0 : goal.returns-else-strength-eq4-clause-tc0
returns-else-strength-eq4-clause-tc0 c = rw (c.tc0.ensures, c.from.ensures) (tc0_most c.args.indexes.a c.args.strength c.requires.a c.requires.some (omega arith))
