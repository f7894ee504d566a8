use Rattle.intra_pred.proofs.SamplesChroma.{dc, horizontal, plane, vertical}
use Rattle.intra_pred.proofs.chroma.predict_chroma.Goals as goal

pub returns-in-0-clause-samples : goal.returns-in-0-clause-samples
returns-in-0-clause-samples c = dc _ c.args.left c.args.top c.args.corner _ c.in-0.is c.dc.ensures

pub returns-in_ok-left-in-1-clause-samples : goal.returns-in_ok-left-in-1-clause-samples
returns-in_ok-left-in-1-clause-samples c = horizontal _ _ c.args.top c.args.corner _ _ c.in-1.is c.in_ok-left-in-1.was c.horizontal.ensures

pub returns-in_ok-top-in-2-clause-samples : goal.returns-in_ok-top-in-2-clause-samples
returns-in_ok-top-in-2-clause-samples c = vertical _ c.args.left _ c.args.corner _ _ c.in-2.is c.in_ok-top-in-2.was c.vertical.ensures

pub returns-in_ok-corner-in-3-clause-samples : goal.returns-in_ok-corner-in-3-clause-samples
returns-in_ok-corner-in-3-clause-samples c = plane _ _ _ _ _ _ _ _ c.in-3.is c.in_ok-left-in-3.was c.in_ok-top-in-3.was c.in_ok-corner-in-3.was c.plane.ensures
