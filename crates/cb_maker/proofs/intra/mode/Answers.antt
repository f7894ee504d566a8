use Rattle.std.proofs.Common.{refl, sym, ◌∙◌, ◌==◌, eq-eqb, ne_eqb}
use Rattle.cb_maker.proofs.Drawing.{after, when_false, when_true}
use Rattle.cb_maker.specs.Draws.{Made}
use Rattle.cb_types.specs.declared.macroblock.Mode.TheVariants.{Predicted}
use Rattle.cb_maker.specs.Kinds.{drawn_mode, has_both}
use Rattle.cb_maker.proofs.intra.mode.Goals as goal

pub returns-then-not-has_both : goal.returns-then-not-has_both
unfolding drawn_mode
returns-then-not-has_both c = when_false (has_both c.args.slice.now c.args.mb c.args.block) _ (Made Predicted) _ _ (sym c.has_both.ensures ∙ c.if-not-has_both.true) refl

pub returns-then-remains-eq0 : goal.returns-then-remains-eq0
unfolding drawn_mode
returns-then-remains-eq0 c = when_true (has_both c.args.slice.now c.args.mb c.args.block) _ (Made Predicted) _ _ (sym c.has_both.ensures ∙ c.if-not-has_both.false)
    (after _ _ _ _ _ _ c.draw-remains.ensures.drawn (when_true (c.draw-remains.result == 0) (Made Predicted) _ _ _ (eq-eqb c.draw-remains.result 0 c.if-remains-eq0.true) refl))

pub returns : goal.returns
unfolding drawn_mode
returns c = when_true (has_both c.args.slice.now c.args.mb c.args.block) _ (Made Predicted) _ _ (sym c.has_both.ensures ∙ c.if-not-has_both.false)
    (after _ _ _ _ _ _ c.draw-remains.ensures.drawn (when_false (c.draw-remains.result == 0) (Made Predicted) _ _ _ (ne_eqb c.draw-remains.result 0 c.if-remains-eq0.false)
    (after _ _ _ _ _ _ c.draw-mode.ensures.drawn refl)))
