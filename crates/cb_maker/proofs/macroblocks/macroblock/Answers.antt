use Rattle.std.proofs.Common.{refl, sym, ◌∙◌}
use Rattle.cb_maker.proofs.Drawing.{after, when_false, when_true}
use Rattle.cb_maker.specs.Draws.{Made}
use Rattle.mb_syntax.specs.Kinds.{is_skip}
use Rattle.mb_syntax.specs.SliceData.{skipped}
use Rattle.cb_maker.specs.Macroblocks.{drawn_macroblock, drawn_of_kind}
use Rattle.cb_maker.proofs.macroblocks.macroblock.Goals as goal

pub returns-then-is_skip : goal.returns-then-is_skip
unfolding drawn_macroblock
returns-then-is_skip c = after _ _ _ _ _ _ c.kind-kind.ensures (when_true (is_skip c.kind-kind.result) (Made skipped) (drawn_of_kind c.kind-kind.result) _ _ (sym c.is_skip.ensures ∙ c.if-is_skip.true) refl)

pub returns : goal.returns
unfolding drawn_macroblock
returns c = after _ _ _ _ _ _ c.kind-kind.ensures (when_false (is_skip c.kind-kind.result) (Made skipped) (drawn_of_kind c.kind-kind.result) _ _ (sym c.is_skip.ensures ∙ c.if-is_skip.false) c.of_kind.ensures)
