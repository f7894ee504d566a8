use Rattle.std.proofs.Common.{refl, sym, ◌∙◌}
use Rattle.cb_maker.proofs.Drawing.{when_false, when_true}
use Rattle.cb_maker.specs.Draws.{Made, draw}
use Rattle.cb_maker.specs.Kinds.{drawn_intra16_mode, has_all}
use Rattle.cb_maker.proofs.intra.intra16_mode.Goals as goal

pub returns-then-has_all : goal.returns-then-has_all
unfolding drawn_intra16_mode
returns-then-has_all c = when_true (has_all c.args.slice.now c.args.mb) (draw 4) (Made 2) _ _ (sym c.has_all.ensures ∙ c.if-has_all.true) c.draw.ensures.drawn

pub returns-else-has_all : goal.returns-else-has_all
unfolding drawn_intra16_mode
returns-else-has_all c = when_false (has_all c.args.slice.now c.args.mb) (draw 4) (Made 2) _ _ (sym c.has_all.ensures ∙ c.if-has_all.false) refl
