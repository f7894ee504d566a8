use Rattle.held_pictures.proofs.Calls.{calls_keep_devices, calls_keep_held, empty_calls_keep_held}
use Rattle.held_pictures.proofs.laws.calls_keep_what_is_held.Goals as goal

pub returns : goal.returns
returns c = record { devices = calls_keep_devices; held = calls_keep_held; all = empty_calls_keep_held }
