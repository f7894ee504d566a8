use Rattle.file_readings.proofs.ReadingsExist as lemmas
use Rattle.file_readings.proofs.laws.readings_are_functions.Goals as goal

pub returns : goal.returns
returns c = lemmas.readings_are_functions
