use Rattle.std.proofs.Common.{◌≡◌, map, take}
use Rattle.driver_model.specs.Clock.{flip_of}
use Rattle.plain_driver.specs.States.{state_of}
use Rattle.plain_driver.specs.Ticking.{due_of, flipped_of}
use Rattle.plain_driver.proofs.driver.Plain.flips.Given as goal

abbrev pub invariant-loop-due : goal.invariant-loop-due
invariant-loop-due l = map flipped_of l.flips.items ≡ map (flip_of (state_of l.self) l.time) (map due_of (take l.due-index l.dues))
