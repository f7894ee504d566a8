use Rattle.std.proofs.Common.{pos}
use Rattle.cb_maker.proofs.Arrays.{FilledSo}
use Rattle.cb_maker.specs.Blocks.{drawn_level}
use Rattle.cb_maker.proofs.blocks.levels.Given as goal

abbrev pub invariant-loop-i : goal.invariant-loop-i
invariant-loop-i l = FilledSo (λ place. drawn_level) (pos 0) 16 l.i l.levels l.initial.draws.state l.draws.state
