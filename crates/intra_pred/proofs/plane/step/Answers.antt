use Rattle.intra_pred.proofs.Slopes.{step_small}
use Rattle.intra_pred.proofs.plane.step.Goals as goal

pub returns-clause-small : goal.returns-clause-small
returns-clause-small c =
    let small = step_small c.args.factor c.steepness.result c.requires.factor record { least = c.steepness.ensures.low; most = c.steepness.ensures.high } in
    record { least = small.least; most = small.most }
