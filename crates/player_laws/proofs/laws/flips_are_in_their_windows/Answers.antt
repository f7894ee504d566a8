use Rattle.player_laws.proofs.FlipWindows as windows
use Rattle.player_laws.proofs.laws.flips_are_in_their_windows.Goals as goal

pub returns : goal.returns
returns c = windows.flips_are_in_their_windows
