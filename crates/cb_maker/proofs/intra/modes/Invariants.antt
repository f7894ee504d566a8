use Rattle.cb_maker.proofs.Arrays.{DrawnSo}
use Rattle.cb_maker.specs.Kinds.{drawn_mode}
use Rattle.cb_maker.proofs.intra.modes.Given as goal

abbrev pub invariant-loop-i : goal.invariant-loop-i
invariant-loop-i l = DrawnSo (drawn_mode l.slice l.mb) 16 l.i l.modes l.initial.draws.state l.draws.state
