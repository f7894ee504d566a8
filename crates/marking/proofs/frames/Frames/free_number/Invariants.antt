use Rattle.std.proofs.Common.{◌≡◌, ◌-◌, length}
use Rattle.marking.specs.Frames.{free_number_from}
use Rattle.marking.proofs.frames.Frames.free_number.Given as goal

abbrev pub invariant-loop-number : goal.invariant-loop-number
invariant-loop-number l = free_number_from l.self (length l.self - l.number) l.number ≡ free_number_from l.self (length l.self) 0
