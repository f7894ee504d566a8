-- Video surfaces whose samples come to have several owners. No public clause cites this module.
use Rattle.std.specs.Prelude.{◌≡◌}
use Rattle.driver_model.specs.States.{State}
use Rattle.driver_objects.specs.Alike.{AreAlike}
use Rattle.driver_objects.specs.Kept.{kept_of}
use Rattle.driver_core.specs.Stands.{Stands}
use Rattle.driver_core.specs.declared.driver.Core.{Core}

-- Nothing has changed, but for how many owners samples have.
pub record Shares (old new : Core) : Type 0 where
  pub alike : AreAlike (kept_of new.objects) (kept_of old.objects)
  pub queues : new.queues ≡ old.queues
  pub jobs : new.jobs ≡ old.jobs
  pub stands : (d : State) → Stands old d → Stands new d
