use Rattle.std.proofs.Common.{◌≡◌}
use Rattle.device_lock.proofs.tests.count_many.Given as goal

abbrev pub invariant-loop : goal.invariant-loop
invariant-loop g l = l.pass.seat.table_id ≡ l.fn.pass.seat.table_id
