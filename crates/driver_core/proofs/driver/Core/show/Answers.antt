use Rattle.driver_core.proofs.driver.Core.show.Goals as goal

pub returns-in-Ok : goal.returns-in-Ok
returns-in-Ok c = c.advance_on.ensures c.args.device c.in-Ok.ensures.finds
