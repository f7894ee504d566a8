use Rattle.int_transform.proofs.Scales.{product_is, product_small}
use Rattle.int_transform.proofs.blocks.scaled.Goals as goal

pub returns-clause-value : goal.returns-clause-value
returns-clause-value c = product_is c.args.level c.args.scale c.requires.level c.requires.scale

pub returns-clause-within : goal.returns-clause-within
returns-clause-within c = product_small c.args.level c.args.scale c.requires.level c.requires.scale
