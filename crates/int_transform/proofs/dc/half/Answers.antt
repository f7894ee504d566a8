use Rattle.int_transform.proofs.DcValues.{halved}
use Rattle.int_transform.proofs.dc.half.Goals as goal

pub returns-clause-value : goal.returns-clause-value
returns-clause-value c = (halved c.args.f c.args.scale c.requires.f c.requires.scale).is

pub returns-clause-within : goal.returns-clause-within
returns-clause-within c = (halved c.args.f c.args.scale c.requires.f c.requires.scale).within
