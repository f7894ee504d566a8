use Rattle.std.proofs.Common.{◌≡◌, map, take}
use Rattle.plain_driver.specs.States.{state_of}
use Rattle.plain_driver.specs.Ticking.{due_of, with_all_shown}
use Rattle.plain_driver.proofs.driver.Plain.show_all.Given as goal

abbrev pub invariant-loop-due : goal.invariant-loop-due
invariant-loop-due l = state_of l.self ≡ with_all_shown (state_of l.initial.self) l.time (map due_of (take l.due-index l.dues))
