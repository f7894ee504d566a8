use Rattle.cb_maker.proofs.Drawing.{after, when_false, when_true}
use Rattle.cb_maker.specs.Kinds.{drawn_in_i, drawn_in_p, drawn_kind}
use Rattle.cb_maker.proofs.kinds.kind.Goals as goal

pub returns-then-slice : goal.returns-then-slice
unfolding drawn_kind
returns-then-slice c = after _ _ _ _ _ _ c.draw-number.ensures.drawn (when_true c.args.slice.now.is_p (drawn_in_p c.args.slice.now c.args.mb c.draw-number.result) (drawn_in_i c.args.slice.now c.args.mb c.draw-number.result) _ _ c.if-slice.true c.kind_in_p.ensures)

pub returns-else-slice : goal.returns-else-slice
unfolding drawn_kind
returns-else-slice c = after _ _ _ _ _ _ c.draw-number.ensures.drawn (when_false c.args.slice.now.is_p (drawn_in_p c.args.slice.now c.args.mb c.draw-number.result) (drawn_in_i c.args.slice.now c.args.mb c.draw-number.result) _ _ c.if-slice.false c.kind_in_i.ensures)
