use Rattle.std.proofs.Common.{refl, sym, ap, ◌∙◌, ℕ, pos}
use Rattle.cb_maker.proofs.Drawing.{when_false, when_true}
use Rattle.cb_maker.specs.Draws.{Made}
use Rattle.std.proofs.Common.{replicate}
use Rattle.mb_syntax.specs.Blocks.{is_coded, most_levels}
use Rattle.cb_maker.specs.Blocks.{drawn_block, drawn_levels}
use Rattle.cb_maker.proofs.blocks.block.Goals as goal

pub returns-then-not-is_coded : goal.returns-then-not-is_coded
unfolding drawn_block
returns-then-not-is_coded c = when_false (is_coded c.args.kind.now c.args.place) (drawn_levels (most_levels c.args.kind.now c.args.place)) (Made (replicate 16 (pos 0))) _ _ (sym c.is_coded.ensures ∙ c.if-not-is_coded.true) refl

pub returns : goal.returns
unfolding drawn_block
returns c = when_true (is_coded c.args.kind.now c.args.place) (drawn_levels (most_levels c.args.kind.now c.args.place)) (Made (replicate 16 (pos 0))) _ _ (sym c.is_coded.ensures ∙ c.if-not-is_coded.false)
    (ap (λ (n : ℕ). drawn_levels n c.args.draws.now.state) (sym c.most_levels-most.ensures.value) ∙ c.levels.ensures)
