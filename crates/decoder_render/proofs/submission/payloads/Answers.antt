use Rattle.std.proofs.Common.{arith}
use Rattle.std.proofs.lemmas.Grind.{common_steps}
use Rattle.decoder_render.proofs.SubmissionPayloads.{payloads_more}
use Rattle.decoder_render.proofs.UnitPlaces.{units_few}
use Rattle.decoder_render.proofs.submission.payloads.Goals as goal

pub loop-number-preserved : goal.loop-number-preserved
loop-number-preserved c =
    record {
      count = grind (arith, common_steps, c.in_ok-push.ensures.items);
      each = payloads_more _ _ _ _ _ _ _ c.in_ok-push.ensures.items c.loop-number.invariant.count c.loop-number.invariant.each c.in_ok-payload.ensures;
    }

-- a fourth of the text's length at most
pub returns-clause-few : goal.returns-clause-few
returns-clause-few c =
    let few = units_few _ _ _ c.in_ok-places.ensures in
    let count = c.loop-number.invariant.count in
    let until = c.loop-number.auto.number-end in
    let end = c.len-number-end.ensures in
    omega (arith, few, count, until, end)
