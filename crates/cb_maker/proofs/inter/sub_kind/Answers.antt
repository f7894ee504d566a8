use Rattle.std.proofs.Common.{◌==◌}
use Rattle.cb_maker.proofs.Drawing.{when_false, when_true}
use Rattle.cb_maker.specs.Draws.{draw}
use Rattle.std.proofs.Common.{eq-eqb, ne_eqb}
use Rattle.cb_maker.specs.Kinds.{drawn_sub_kind}
use Rattle.cb_maker.proofs.inter.sub_kind.Goals as goal

pub returns-then-quarter-eq0 : goal.returns-then-quarter-eq0
unfolding drawn_sub_kind
returns-then-quarter-eq0 c = when_true (c.args.quarter == 0) (draw 4) (draw 3) _ _ (eq-eqb c.args.quarter 0 c.if-quarter-eq0.true) c.draw.ensures.drawn

pub returns-else-quarter-eq0 : goal.returns-else-quarter-eq0
unfolding drawn_sub_kind
returns-else-quarter-eq0 c = when_false (c.args.quarter == 0) (draw 4) (draw 3) _ _ (ne_eqb c.args.quarter 0 c.if-quarter-eq0.false) c.draw-else-quarter-eq0.ensures.drawn
