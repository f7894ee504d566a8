use Rattle.driver_core.proofs.AtFirst.{sound_at_first}
use Rattle.driver_core.proofs.driver.Core.new.Goals as goal

pub invariant_of-result : goal.invariant_of-result
invariant_of-result c = rw (c.new.ensures.kept, c.new.ensures.made, c.in_ok-new.ensures, c.new-3.ensures.items) (record { sound = sound_at_first })
