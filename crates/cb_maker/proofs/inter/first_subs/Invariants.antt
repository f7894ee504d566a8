use Rattle.cb_maker.proofs.Arrays.{DrawnSo}
use Rattle.std.proofs.Common.{slice_index}
use Rattle.cb_maker.specs.Kinds.{drawn_sub}
use Rattle.cb_maker.proofs.inter.first_subs.Given as goal

abbrev pub invariant-loop-i : goal.invariant-loop-i
invariant-loop-i l = DrawnSo (λ quarter. drawn_sub (slice_index l.kinds quarter) 0) 4 l.i l.subs l.initial.draws.state l.draws.state
