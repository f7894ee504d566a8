use Rattle.std.proofs.Common.{refl, sym, ◌∙◌, pos, rules}
use Rattle.cb_maker.proofs.Drawing.{signed, when_false, when_true}
use Rattle.cb_maker.specs.Draws.{Made, draw_around}
use mir.Syntax.{w32}
use mir.Val.{SFits}
use Rattle.mb_syntax.specs.Kinds.{has_qp_delta}
use Rattle.cb_maker.specs.Macroblocks.{drawn_qp_delta}
use Rattle.cb_maker.proofs.macroblocks.qp_delta.Goals as goal

pub returns-then-has_qp_delta : goal.returns-then-has_qp_delta
unfolding drawn_qp_delta
returns-then-has_qp_delta c =
    let fits : SFits w32 c.draw_around.result = search rules in
    signed _ c.draw_around.result _ fits
    (when_true (has_qp_delta c.args.kind.now) (draw_around 2) (Made (pos 0)) _ _ (sym c.has_qp_delta.ensures ∙ c.if-has_qp_delta.true) c.draw_around.ensures)

pub returns-else-has_qp_delta : goal.returns-else-has_qp_delta
unfolding drawn_qp_delta
returns-else-has_qp_delta c = when_false (has_qp_delta c.args.kind.now) (draw_around 2) (Made (pos 0)) _ _ (sym c.has_qp_delta.ensures ∙ c.if-has_qp_delta.false) refl
