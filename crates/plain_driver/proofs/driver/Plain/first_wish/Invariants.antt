use Rattle.std.proofs.Common.{◌≡◌, drop}
use Rattle.driver_model.specs.Wishes.{first_wish_from}
use Rattle.plain_driver.specs.States.{state_of}
use Rattle.plain_driver.proofs.driver.Plain.first_wish.Given as goal

abbrev pub invariant-loop-place : goal.invariant-loop-place
invariant-loop-place l = first_wish_from (state_of l.self) l.place (drop l.place l.wishes) ≡ first_wish_from (state_of l.self) 0 l.wishes
