use Rattle.cb_maker.proofs.Arrays.{DrawnSo}
use Rattle.cb_maker.specs.Blocks.{drawn_dc}
use Rattle.cb_maker.proofs.blocks.chroma_dc.Given as goal

abbrev pub invariant-loop-i : goal.invariant-loop-i
invariant-loop-i l = DrawnSo (drawn_dc l.kind) 2 l.i l.chroma_dc l.initial.draws.state l.draws.state
