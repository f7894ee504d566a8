use Rattle.driver_core.proofs.FoundKinds.{video_looks}
use Rattle.driver_core.proofs.driver.Core.video.Goals as goal

pub returns : goal.returns
returns c =
    let l = video_looks c.args.self.now c.args.arg c.args.name c.in_use.result c.in_use.ensures in
    record { live = l.live; finds = l.finds; refuses = l.refuses }
