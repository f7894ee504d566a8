use Rattle.held_pictures.proofs.Others.{others_keep_devices, others_keep_held, others_keep_idle}
use Rattle.held_pictures.proofs.laws.others_keep_what_is_held.Goals as goal

pub returns : goal.returns
returns c = record { devices = others_keep_devices; held = others_keep_held; idle = others_keep_idle }
