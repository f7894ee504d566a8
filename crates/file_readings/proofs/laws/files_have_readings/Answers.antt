use Rattle.file_readings.proofs.ReadingsExist as lemmas
use Rattle.file_readings.proofs.laws.files_have_readings.Goals as goal

pub returns : goal.returns
returns c = lemmas.readings_exist
