use Rattle.mixer.proofs.Pixels as pixels
use Rattle.mixer.proofs.pixels_are_all.Goals as goal

pub returns : goal.returns
returns c = pixels.pixels_are_all
