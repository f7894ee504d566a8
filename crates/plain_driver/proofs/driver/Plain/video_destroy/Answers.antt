use Rattle.driver_model.specs.Objects.{as_video}
use Rattle.plain_driver.proofs.Goes.{at_below}
use Rattle.plain_driver.proofs.driver.Plain.video_destroy.Goals as goal

pub destroy-requires : goal.destroy-requires
destroy-requires c = at_below as_video c.args.surface c.args.self.now c.in_ok-place.place c.in_ok-place.ensures
