use Rattle.std.proofs.Common.{◌∙◌}
use Rattle.driver_model.specs.Objects.{as_device}
use Rattle.driver_model.specs.declared.numbers.TheConstants.{DEVICE}
use Rattle.plain_driver.specs.States.{state_of}
use Rattle.plain_driver.proofs.Finding.{used_is}
use Rattle.plain_driver.proofs.KindNumbers.{device_kind}
use Rattle.plain_driver.proofs.driver.Plain.device.Goals as goal

pub returns : goal.returns
returns c = c.used.ensures ∙ used_is as_device DEVICE device_kind c.args.name (state_of c.args.self.now) 0
