use Rattle.accepted_pictures.proofs.OneReading.{one_reading}
use Rattle.accepted_pictures.proofs.laws.files_have_one_reading.Goals as goal

pub returns : goal.returns
returns c = one_reading
