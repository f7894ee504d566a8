use Rattle.file_readings.proofs.ContentsExist.{tells_some}
use Rattle.file_readings.proofs.laws.units_tell_something.Goals as goal

pub returns : goal.returns
returns c = tells_some
