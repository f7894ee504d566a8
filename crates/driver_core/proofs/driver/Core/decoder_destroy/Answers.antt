use Rattle.std.proofs.Common.{inr, refl}
use Rattle.driver_core.proofs.Steps.{finding}
use Rattle.driver_core.proofs.driver.Core.decoder_destroy.Goals as goal

pub returns-in-Ok : goal.returns-in-Ok
returns-in-Ok c d caller stands =
    let live = c.in-Ok.ensures.live in
    let found = c.in-Ok.ensures.finds _ (record { object = live.object; there = live.there; has = refl }) d stands in
    record { after = _; step = inr (finding _ _ _ _ found.looks (refl, refl)); stands = c.destroy.ensures d found.object stands found.there }
