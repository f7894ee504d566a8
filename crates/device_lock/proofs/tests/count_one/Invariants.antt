use Rattle.std.proofs.Common.{Some}
use Rattle.device_lock.proofs.tests.count_one.Given as goal

-- an item of the caller that holds the value
abbrev pub ghosts-log : goal.ghosts-log
ghosts-log g a = record { item = Some (record { by = a.self.hand.seat.me.0.number }) }
