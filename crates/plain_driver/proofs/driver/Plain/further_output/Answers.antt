use Rattle.std.proofs.Common.{◌∙◌}
use Rattle.driver_model.specs.Objects.{as_output}
use Rattle.plain_driver.specs.States.{state_of}
use Rattle.driver_model.specs.declared.numbers.TheConstants.{OUTPUT_SURFACE}
use Rattle.plain_driver.proofs.Finding.{further_is}
use Rattle.plain_driver.proofs.KindNumbers.{output_kind}
use Rattle.plain_driver.proofs.driver.Plain.further_output.Goals as goal

pub returns : goal.returns
returns c = c.further.ensures ∙ further_is as_output OUTPUT_SURFACE output_kind c.args.name (state_of c.args.self.now) c.args.arg c.args.device
