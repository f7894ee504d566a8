use Rattle.std.proofs.Common.{refl, arith, rules, ap, ◌≤◌, ◌≡◌, ℤ, pos, List}
use Rattle.cb_maker.proofs.Arrays.{all_filled, more_filled, none_filled}
use Rattle.cb_maker.proofs.Drawing.{after, signed}
use mir.Syntax.{w32}
use mir.Val.{SFits}
use Rattle.cb_maker.specs.Blocks.{drawn_level, drawn_levels}
use Rattle.cb_maker.proofs.blocks.levels.Goals as goal

pub loop-i-init : goal.loop-i-init
loop-i-init c = none_filled (λ place. drawn_level) (pos 0) 16 _ _ refl

pub loop-i-preserved : goal.loop-i-preserved
loop-i-preserved c = more_filled (λ place. drawn_level) (pos 0) 16 c.loop-i.i c.loop-i.levels _ _ c.loop-i.draws.state _ (omega (arith, c.loop-i-test.true, c.requires)) c.loop-i.invariant
    (let fits : SFits w32 c.level.result = search rules in signed _ c.level.result _ fits c.level.ensures)

pub returns : goal.returns
unfolding drawn_levels
returns c =
    let end : c.loop-i.i ≡ c.args.count = omega arith in
    let few : c.loop-i.i ≤ 16 = omega arith in
    let all = all_filled (λ place. drawn_level) (pos 0) 16 c.loop-i.i c.args.count c.loop-i.levels c.args.draws.now.state c.loop-i.draws.state end few c.loop-i.invariant in
    after _ _ _ _ _ _ all.0 (ap (λ (s : List ℤ). (s, c.loop-i.draws.state)) all.1)
