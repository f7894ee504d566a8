-- What the driver's lock keeps to.
use Rattle.std.specs.Prelude.{List}
use Rattle.driver_core.specs.Stands.{Stands}
use Rattle.driver_core.specs.declared.driver.Core.{Core}
use Rattle.driver_model.specs.Histories.{IsStateOf}
use Rattle.driver_model.specs.States.{State}
use Rattle.driver_model.specs.declared.items.Item.{Item}

-- The history leads to a state for which the core stands.
pub record StandsAt (core : Core) (history : List Item) : Type 0 where
  pub state : State
  pub leads : IsStateOf history state
  pub stands : Stands core state
