use Rattle.driver_model.specs.Objects.{as_output}
use Rattle.plain_driver.proofs.Goes.{at_below}
use Rattle.plain_driver.proofs.driver.Plain.output_destroy.Goals as goal

pub destroy-requires : goal.destroy-requires
destroy-requires c = at_below as_output c.args.surface c.args.self.now c.in_ok-place.place c.in_ok-place.ensures
