use Rattle.std.proofs.Common.{◌≡◌, map, take}
use Rattle.plain_driver.specs.Ticking.{due_of}
use Rattle.plain_driver.proofs.Loops.{dues_from}
use Rattle.plain_driver.proofs.driver.Plain.all_due.Given as goal

abbrev pub invariant-loop-queue : goal.invariant-loop-queue
invariant-loop-queue l = map due_of l.dues.items ≡ dues_from l.on l.time 0 (take l.queue l.object-items)
