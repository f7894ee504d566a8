use Rattle.driver_core.proofs.SeenSurfaces.{surface_looks}
use Rattle.driver_core.proofs.driver.Core.surface.Goals as goal

pub returns : goal.returns
returns c =
    let l = surface_looks c.args.self.now c.args.arg c.args.name c.args.device c.further.result c.further.ensures in
    record { video = l.video; sees = l.sees; refuses = l.refuses }
