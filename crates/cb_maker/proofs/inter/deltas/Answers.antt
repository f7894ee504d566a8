use Rattle.std.proofs.Common.{refl, arith, ap, ◌≤◌, ◌≡◌, pos, List}
use Rattle.cb_maker.proofs.Arrays.{all_filled, more_filled, none_filled}
use Rattle.cb_maker.proofs.Drawing.{after}
use Rattle.cb_types.specs.declared.macroblock.Vector.{Vector}
use Rattle.cb_maker.specs.Kinds.{drawn_deltas, drawn_vector}
use Rattle.mb_syntax.specs.Kinds.{sub_parts}
use Rattle.cb_maker.proofs.inter.deltas.Goals as goal

pub loop-i-init : goal.loop-i-init
loop-i-init c = none_filled (λ part. drawn_vector) (record { x = pos 0; y = pos 0 }) 4 _ _ refl

pub loop-i-preserved : goal.loop-i-preserved
loop-i-preserved c = more_filled (λ part. drawn_vector) (record { x = pos 0; y = pos 0 }) 4 c.loop-i.i c.loop-i.deltas _ _ c.loop-i.draws.state _ (omega (arith, c.loop-i-test.true, c.sub_parts-i-end.ensures.few)) c.loop-i.invariant c.vector.ensures

pub returns : goal.returns
unfolding drawn_deltas
returns c =
    let end : c.loop-i.i ≡ sub_parts c.args.kind = omega arith in
    let few : c.loop-i.i ≤ 4 = omega arith in
    let all = all_filled (λ part. drawn_vector) (record { x = pos 0; y = pos 0 }) 4 c.loop-i.i (sub_parts c.args.kind) c.loop-i.deltas c.args.draws.now.state c.loop-i.draws.state end few c.loop-i.invariant in
    after _ _ _ _ _ _ all.0 (ap (λ (s : List Vector). (s, c.loop-i.draws.state)) all.1)
