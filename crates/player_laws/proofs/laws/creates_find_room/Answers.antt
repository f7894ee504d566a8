use Rattle.player_laws.proofs.Fullness as fullness
use Rattle.player_laws.proofs.Room as room
use Rattle.player_laws.proofs.laws.creates_find_room.Goals as goal

pub returns : goal.returns
returns c = record { room = fullness.creates_find_room; sixteen = room.sixteen_callers_find_room }
