use Rattle.held_pictures.proofs.Calls.{calls_find_devices, calls_find_held, calls_find_idle, calls_gain_alone}
use Rattle.held_pictures.proofs.laws.calls_find_what_is_held.Goals as goal

pub returns : goal.returns
returns c = record { alone = calls_gain_alone; devices = calls_find_devices; held = calls_find_held; idle = calls_find_idle }
