use Rattle.cb_maker.proofs.Arrays.{DrawnSo}
use Rattle.cb_maker.specs.Kinds.{drawn_sub_kind}
use Rattle.cb_maker.proofs.inter.sub_kinds.Given as goal

abbrev pub invariant-loop-i : goal.invariant-loop-i
invariant-loop-i l = DrawnSo drawn_sub_kind 4 l.i l.kinds l.initial.draws.state l.draws.state
