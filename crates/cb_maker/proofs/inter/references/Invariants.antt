use Rattle.cb_maker.proofs.Arrays.{DrawnSo}
use Rattle.cb_maker.specs.Kinds.{drawn_reference}
use Rattle.cb_maker.proofs.inter.references.Given as goal

abbrev pub invariant-loop-i : goal.invariant-loop-i
invariant-loop-i l = DrawnSo (λ quarter. drawn_reference l.slice) 4 l.i l.references l.initial.draws.state l.draws.state
