use Rattle.std.proofs.Common.{lit≤}
use Rattle.int_transform.proofs.BlockRows.{scale_within}
use Rattle.int_transform.proofs.DcValues.{dc_is, dc_within}
use Rattle.int_transform.proofs.dc.scaled_dc.Goals as goal

pub returns-clause-value : goal.returns-clause-value
returns-clause-value c =
    dc_is c.args.f c.scale.result c.args.qp c.requires.f (scale_within c.args.qp 0 _ c.requires.qp (lit≤ tt) c.scale.ensures.value) c.scale.ensures.value

pub returns-clause-within : goal.returns-clause-within
returns-clause-within c =
    dc_within c.args.f c.scale.result c.requires.f (scale_within c.args.qp 0 _ c.requires.qp (lit≤ tt) c.scale.ensures.value)
