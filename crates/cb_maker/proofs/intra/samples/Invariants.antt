use Rattle.cb_maker.proofs.Arrays.{DrawnSo}
use Rattle.cb_maker.specs.Draws.{draw}
use Rattle.cb_maker.proofs.intra.samples.Given as goal

abbrev pub invariant-loop-i : goal.invariant-loop-i
invariant-loop-i l = DrawnSo (λ place. draw 256) 384 l.i l.samples l.initial.draws.state l.draws.state
