use Rattle.std.proofs.Common.{◌∙◌}
use Rattle.driver_model.specs.Objects.{as_output}
use Rattle.driver_model.specs.declared.numbers.TheConstants.{OUTPUT_SURFACE}
use Rattle.plain_driver.specs.States.{state_of}
use Rattle.plain_driver.proofs.Finding.{used_is}
use Rattle.plain_driver.proofs.KindNumbers.{output_kind}
use Rattle.plain_driver.proofs.driver.Plain.used_output.Goals as goal

pub returns : goal.returns
returns c = c.used.ensures ∙ used_is as_output OUTPUT_SURFACE output_kind c.args.name (state_of c.args.self.now) c.args.arg
