use Rattle.std.proofs.Common.{Some}
use Rattle.device_lock.specs.Passes.{held_view}
use Rattle.driver_model.specs.Ends.{mark_of}
use Rattle.driver.proofs.driver.Driver.end_render.Given as goal

abbrev pub ghosts-log_item : goal.ghosts-log_item
ghosts-log_item g a = record { item = Some (mark_of (held_view a.held) a._call.now) }
