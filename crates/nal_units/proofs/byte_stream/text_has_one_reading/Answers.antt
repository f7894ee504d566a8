use Rattle.nal_units.proofs.Unique.{units_unique}
use Rattle.nal_units.proofs.Advancing.{text_has_units}
use Rattle.nal_units.proofs.byte_stream.text_has_one_reading.Goals as goal

pub returns-clause-one : goal.returns-clause-one
returns-clause-one c = units_unique

pub returns-clause-some : goal.returns-clause-some
returns-clause-some c = text_has_units
