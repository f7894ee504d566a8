use Rattle.param_sets.specs.Sps.{cropping, no_cropping}
use Rattle.element_tables.proofs.Tables.{gives_absent, gives_present}
use Rattle.param_sets.proofs.sps_reading.read_cropping.Goals as goal

pub returns-then-not-is_present : goal.returns-then-not-is_present
returns-then-not-is_present c = gives_absent cropping no_cropping c.args.is_present c.args.reader.now c.if-not-is_present.true

pub returns : goal.returns
returns c = gives_present cropping no_cropping c.args.is_present c.args.reader.now c.read_present_cropping.new.reader c.read_present_cropping.result c.if-not-is_present.false c.read_present_cropping.ensures
