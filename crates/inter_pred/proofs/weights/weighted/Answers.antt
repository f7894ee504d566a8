use Rattle.std.proofs.Common.{rules, FitsSigned, w32}
use Rattle.inter_pred.proofs.Scaled.{weighted_is}
use Rattle.inter_pred.proofs.weights.weighted.Goals as goal

pub returns : goal.returns
returns c =
    let product_fits : FitsSigned w32 c.product.result = search rules in
    weighted_is c.args.denom c.args.sample c.args.weight c.args.offset c.product.result c.scaled.result c.clamp.result product_fits c.ranges.weight c.requires.offset c.scaled.ensures.bound c.product.ensures.value c.scaled.ensures.value c.clamp.ensures.value
