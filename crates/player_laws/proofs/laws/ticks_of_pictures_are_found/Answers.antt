use Rattle.player_laws.proofs.Shown as shown
use Rattle.player_laws.proofs.laws.ticks_of_pictures_are_found.Goals as goal

pub returns : goal.returns
returns c = record { found = shown.ticks_are_found; in_time = shown.ticks_in_time_are_found }
