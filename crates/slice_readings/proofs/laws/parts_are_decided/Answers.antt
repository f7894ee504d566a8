use Rattle.slice_readings.proofs.PartReadings.{block_decided, header_decided, slice_data_decided}
use Rattle.slice_readings.proofs.laws.parts_are_decided.Goals as goal

pub returns : goal.returns
returns c = record { block = block_decided; header = header_decided; slice_data = slice_data_decided }
