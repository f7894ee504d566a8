use Rattle.driver_core.proofs.FoundKinds.{on_found, on_live, on_refused, on_within}
use Rattle.driver_core.proofs.driver.Core.on_device.Goals as goal

pub object-requires : goal.object-requires
object-requires c = on_within c.args.self.now c.args.name c.in-Ok.index c.in-Ok.ensures

pub returns-in-Ok-clause-live : goal.returns-in-Ok-clause-live
returns-in-Ok-clause-live c = on_live c.args.self.now c.args.name c.in-Ok.index c.in-Ok.ensures _ c.object.ensures

pub returns-in-Ok-clause-finds : goal.returns-in-Ok-clause-finds
returns-in-Ok-clause-finds c = on_found c.args.self.now c.args.name c.in-Ok.index c.in-Ok.ensures _ c.object.ensures

pub returns-in-Err : goal.returns-in-Err
returns-in-Err c = record { live = tt; finds = tt; refuses = on_refused c.args.self.now c.args.name c.in-Err.refusal c.in-Err.ensures }
