use Rattle.std.proofs.Common.{pos}
use Rattle.cb_maker.proofs.Arrays.{FilledSo}
use Rattle.cb_maker.specs.Kinds.{drawn_vector}
use Rattle.cb_maker.proofs.inter.deltas.Given as goal

abbrev pub invariant-loop-i : goal.invariant-loop-i
invariant-loop-i l = FilledSo (λ part. drawn_vector) (record { x = pos 0; y = pos 0 }) 4 l.i l.deltas l.initial.draws.state l.draws.state
