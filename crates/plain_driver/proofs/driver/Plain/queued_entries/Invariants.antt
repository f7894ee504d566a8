use Rattle.std.proofs.Common.{◌≡◌, ◌*◌, ◌≤◌, take}
use Rattle.std.specs.List.{sum_by}
use Rattle.plain_driver.specs.Keeping.{waiting_in}
use Rattle.plain_driver.proofs.driver.Plain.queued_entries.Given as goal

abbrev pub invariant-loop-object : goal.invariant-loop-object
invariant-loop-object l = (l.entries ≡ sum_by waiting_in (take l.object-index l.object-items)) × (l.entries ≤ 64 * l.object-index)
