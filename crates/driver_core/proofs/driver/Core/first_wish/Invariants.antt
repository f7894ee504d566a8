use Rattle.std.proofs.Common.{◌≡◌, drop}
use Rattle.driver_model.specs.States.{State}
use Rattle.driver_model.specs.Wishes.{first_wish, first_wish_from}
use Rattle.driver_core.specs.Stands.{Stands}
use Rattle.driver_core.proofs.driver.Core.first_wish.Given as goal

abbrev pub invariant-loop-place : goal.invariant-loop-place
invariant-loop-place l = (d : State) → Stands l.self d → first_wish d l.wishes ≡ first_wish_from d l.place (drop l.place l.wishes)
