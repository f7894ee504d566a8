use Rattle.std.proofs.Common.{◌≡◌, ◌<◌, arith, refl}
use Rattle.std.proofs.lemmas.List.Elements.{All-replicate}
use Rattle.mb_syntax.proofs.InterLemmas.{all_deltas, more_deltas, no_deltas, none_deltas}
use Rattle.mb_syntax.specs.Kinds.{sub_parts}
use Rattle.mb_syntax.specs.Prediction.{IsZeroVector}
use Rattle.mb_syntax.proofs.inter.read_deltas.Goals as goal

pub loop-i-init : goal.loop-i-init
loop-i-init c = none_deltas _ c.args.reader.now refl (All-replicate IsZeroVector 4 _ (refl, refl))

pub returns-in_err-deltas : goal.returns-in_err-deltas
returns-in_err-deltas c =
    let below : c.loop-i.i < sub_parts c.args.kind = omega (arith, c.loop-i-test.true, c.sub_parts-i-end.ensures.sub_parts) in
    rw c.from_residual.ensures (no_deltas c.args.kind c.loop-i.i c.loop-i.deltas c.args.reader.now c.loop-i.reader below c.loop-i.invariant c.in_err-deltas.ensures)

pub loop-i-preserved : goal.loop-i-preserved
loop-i-preserved c =
    let below : c.loop-i.i < 4 = omega (arith, c.loop-i-test.true, c.sub_parts-i-end.ensures.few) in
    more_deltas c.loop-i.i c.loop-i.deltas c.in_ok-deltas.field-0 c.args.reader.now c.loop-i.reader c.read_vector.new.reader below c.loop-i.invariant c.in_ok-deltas.ensures.0 c.in_ok-deltas.ensures.1

pub returns : goal.returns
returns c =
    let all : c.loop-i.i ≡ sub_parts c.args.kind = omega (arith, c.loop-i-test.false, c.loop-i.auto.i-end, c.sub_parts-i-end.ensures.sub_parts) in
    all_deltas c.args.kind c.loop-i.i c.loop-i.deltas c.args.reader.now c.loop-i.reader all c.loop-i.invariant
