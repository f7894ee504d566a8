use Rattle.held_pictures.proofs.Calls.{items_keep_devices}
use Rattle.held_pictures.proofs.Own.{empty_items_keep_held, own_items_keep_held}
use Rattle.held_pictures.proofs.laws.items_keep_what_is_held.Goals as goal

pub returns : goal.returns
returns c = record { devices = items_keep_devices; held = own_items_keep_held; all = empty_items_keep_held }
