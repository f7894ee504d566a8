use Rattle.cb_maker.proofs.Arrays.{DrawnSo}
use Rattle.cb_maker.specs.Blocks.{drawn_luma}
use Rattle.cb_maker.proofs.blocks.luma.Given as goal

abbrev pub invariant-loop-i : goal.invariant-loop-i
invariant-loop-i l = DrawnSo (drawn_luma l.kind) 16 l.i l.luma l.initial.draws.state l.draws.state
