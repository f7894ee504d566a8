use Rattle.std.proofs.Common.{refl}
use Rattle.driver_core.proofs.driver.Core.begin_mix.Goals as goal

pub returns-in-Now-Ok : goal.returns-in-Now-Ok
returns-in-Now-Ok c d caller stands = (rw c.in-Now-Ok.field-0-is at c.in-Now-Ok.ensures) d caller stands

pub returns-in-Now-Err : goal.returns-in-Now-Err
returns-in-Now-Err c d caller stands = let w = (rw c.in-Now-Err.field-0-is at c.in-Now-Err.ensures) d caller stands in (refl, w.0, w.1)

pub returns-in-Later : goal.returns-in-Later
returns-in-Later c d caller stands = let w = c.in-Later.ensures d caller stands in (refl, w.0, w.1)
