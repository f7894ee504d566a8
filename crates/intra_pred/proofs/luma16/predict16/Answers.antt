use Rattle.std.proofs.Common.{◌+◌, ◌*◌, replicate, arith, ◌∙◌}
use Rattle.std.proofs.lemmas.List.{get_or-replicate}
use Rattle.intra_pred.proofs.Samples16.{horizontal, mean, plane, vertical}
use Rattle.intra_pred.proofs.luma16.predict16.Goals as goal

pub returns-in_ok-top-in-0-clause-samples : goal.returns-in_ok-top-in-0-clause-samples
returns-in_ok-top-in-0-clause-samples c = vertical _ c.args.left _ c.args.corner _ _ c.in-0.is c.in_ok-top-in-0.was c.vertical.ensures

pub returns-in_ok-left-in-1-clause-samples : goal.returns-in_ok-left-in-1-clause-samples
returns-in_ok-left-in-1-clause-samples c = horizontal _ _ c.args.top c.args.corner _ _ c.in-1.is c.in_ok-left-in-1.was c.horizontal.ensures

pub returns-in-2-clause-samples : goal.returns-in-2-clause-samples
returns-in-2-clause-samples c =
    mean _ c.args.left c.args.top c.args.corner (replicate 256 c.mean.result) c.in-2.is (λ x y hx hy. get_or-replicate 256 (16 * y + x) c.mean.result 0 (omega arith) ∙ c.mean.ensures)

pub returns-in_ok-corner-in-3-clause-samples : goal.returns-in_ok-corner-in-3-clause-samples
returns-in_ok-corner-in-3-clause-samples c = plane _ _ _ _ _ _ _ _ c.in-3.is c.in_ok-left-in-3.was c.in_ok-top-in-3.was c.in_ok-corner-in-3.was c.plane.ensures
