use Rattle.player_laws.proofs.Room as room
use Rattle.player_laws.proofs.laws.callers_add_up.Goals as goal

pub returns : goal.returns
returns c = record { sums = room.callers_add_up; die = room.live_objects_only_die }
