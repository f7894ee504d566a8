use Rattle.std.proofs.Common.{ℤ, ◌+◌, ◌*◌, ◌^◌, ◌<◌, ◌∙◌, length, lit<, ◌+ℤ◌, ◌*ℤ◌, pos, to_z, w32, arith}
use Rattle.std.proofs.Math.ListN.{length-set}
use lib.Signed.{shr_z}
use Rattle.intra_pred.specs.Means.{clipped}
use Rattle.intra_pred.proofs.Slopes.{IsWithin, kept, low_more, row_more, sample_is, value_more, within_kept, within_wider}
use Rattle.intra_pred.proofs.plane.slope.Goals as goal

pub loop-x-preserved : goal.loop-x-preserved
loop-x-preserved c =
    let inv = c.loop-x.invariant in
    let x = c.loop-x.x in
    let v : ℤ = to_z w32 c.loop-x.value-bits in
    let f : ℤ = kept c.args.first in
    let s : ℤ = kept c.args.step in
    let below : x < 16 = c.loop-x-test.true in
    let v_within : IsWithin (2 ^ 20 + 2 ^ 14 * x) v = record { least = inv.1; most = inv.2 } in
    let s_within : IsWithin (2 ^ 14) s = within_kept (2 ^ 14) c.args.step (lit< tt) record { least = c.requires.step.least; most = c.requires.step.most } in
    let wide = within_wider _ (2 ^ 21) v (omega arith) v_within in
    let wider = within_wider _ (2 ^ 22) v (omega arith) v_within in
    let more = low_more v s x below v_within s_within in
    let here : x < length c.loop-x.row = omega (arith, inv.3) in (
      value_more v f s x wide s_within inv.0,
      more.least,
      more.most,
      length-set c.loop-x.row x _ ∙ inv.3,
      row_more c.loop-x.row x _ (λ k. clipped (shr_z (f +ℤ s *ℤ pos k) 32)) here inv.4 (sample_is v _ _ wider inv.0 c.clamp.ensures.value),
    )
