use Rattle.cb_maker.proofs.Arrays.{DrawnSo}
use Rattle.cb_maker.specs.Blocks.{drawn_chroma}
use Rattle.cb_maker.proofs.blocks.chroma.Given as goal

abbrev pub invariant-loop-i : goal.invariant-loop-i
invariant-loop-i l = DrawnSo (drawn_chroma l.kind) 2 l.i l.chroma l.initial.draws.state l.draws.state
