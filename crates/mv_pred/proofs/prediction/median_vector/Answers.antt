use Rattle.std.proofs.Common.{SFits, rules, to_z-of_z, w32}
use Rattle.mv_pred.proofs.prediction.median_vector.Goals as goal

pub returns : goal.returns
returns c =
    let ax : SFits w32 c.args.a.x = search rules in
    let ay : SFits w32 c.args.a.y = search rules in
    let bx : SFits w32 c.args.b.x = search rules in
    let by : SFits w32 c.args.b.y = search rules in
    let cx : SFits w32 c.args.c.x = search rules in
    let cy : SFits w32 c.args.c.y = search rules in
    let x : SFits w32 c.median.result = search rules in
    let y : SFits w32 c.median-2.result = search rules in
    let e1 = to_z-of_z ax in let e2 = to_z-of_z ay in let e3 = to_z-of_z bx in let e4 = to_z-of_z by in let e5 = to_z-of_z cx in let e6 = to_z-of_z cy in
    let e7 = to_z-of_z x in let e8 = to_z-of_z y in
    cc
