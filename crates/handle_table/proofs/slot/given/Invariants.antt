use Rattle.std.proofs.Common.{◌≡◌, ◌*◌, ◌≤◌, take, sum_by}
use Rattle.handle_table.specs.Slots.{used_of}
use Rattle.handle_table.proofs.slot.given.Given as goal

abbrev pub invariant-loop-slot : goal.invariant-loop-slot
invariant-loop-slot l = (l.given ≡ sum_by used_of (take l.slot-index l.slots)) × (l.given ≤ 65536 * l.slot-index)
