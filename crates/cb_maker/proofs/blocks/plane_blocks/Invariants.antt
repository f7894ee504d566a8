use Rattle.cb_maker.proofs.Arrays.{DrawnSo}
use Rattle.mb_syntax.specs.Counts.{chroma_place}
use Rattle.cb_maker.specs.Blocks.{drawn_4x4}
use Rattle.cb_maker.proofs.blocks.plane_blocks.Given as goal

abbrev pub invariant-loop-i : goal.invariant-loop-i
invariant-loop-i l = DrawnSo (λ block. drawn_4x4 l.kind (chroma_place l.plane block)) 4 l.i l.all l.initial.draws.state l.draws.state
