use Rattle.player_laws.proofs.FlipParts as parts
use Rattle.player_laws.proofs.laws.flips_are_of_their_parts.Goals as goal

pub returns : goal.returns
returns c = parts.flips_are_of_their_parts
