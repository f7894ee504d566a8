use Rattle.std.proofs.Common.{refl, ◌==◌, eq-eqb, ne_eqb, pos, rules}
use Rattle.cb_maker.proofs.Drawing.{after, signed, when_false, when_true}
use Rattle.cb_maker.specs.Draws.{Made, draw_around}
use mir.Syntax.{w32}
use mir.Val.{SFits}
use Rattle.cb_maker.specs.Blocks.{drawn_level}
use Rattle.cb_maker.proofs.blocks.level.Goals as goal

pub returns-then-zeros-eq0 : goal.returns-then-zeros-eq0
unfolding drawn_level
returns-then-zeros-eq0 c =
    let fits : SFits w32 c.draw_around.result = search rules in
    signed _ c.draw_around.result _ fits
    (after _ _ _ _ _ _ c.draw-zeros.ensures.drawn (when_true (c.draw-zeros.result == 0) (draw_around 3) (Made (pos 0)) _ _ (eq-eqb c.draw-zeros.result 0 c.if-zeros-eq0.true) c.draw_around.ensures))

pub returns-else-zeros-eq0 : goal.returns-else-zeros-eq0
unfolding drawn_level
returns-else-zeros-eq0 c = after _ _ _ _ _ _ c.draw-zeros.ensures.drawn (when_false (c.draw-zeros.result == 0) (draw_around 3) (Made (pos 0)) _ _ (ne_eqb c.draw-zeros.result 0 c.if-zeros-eq0.false) refl)
