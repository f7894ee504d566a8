use Rattle.file_readings.proofs.PicturesDecided.{picture_decided}
use Rattle.file_readings.proofs.laws.pictures_are_decided.Goals as goal

pub returns : goal.returns
returns c = picture_decided
