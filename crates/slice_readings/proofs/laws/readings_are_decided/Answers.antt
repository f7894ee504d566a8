use Rattle.slice_readings.proofs.SliceReadings.{parses_decided, spells_decided}
use Rattle.slice_readings.proofs.laws.readings_are_decided.Goals as goal

pub returns : goal.returns
returns c = record { spelled = spells_decided; parsed = parses_decided }
