use Rattle.std.proofs.Common.{◌∙◌}
use Rattle.driver_model.specs.Objects.{as_decoder}
use Rattle.driver_model.specs.declared.numbers.TheConstants.{DECODER}
use Rattle.plain_driver.specs.States.{state_of}
use Rattle.plain_driver.proofs.Finding.{used_is}
use Rattle.plain_driver.proofs.KindNumbers.{decoder_kind}
use Rattle.plain_driver.proofs.driver.Plain.decoder.Goals as goal

pub returns : goal.returns
returns c = c.used.ensures ∙ used_is as_decoder DECODER decoder_kind c.args.name (state_of c.args.self.now) 0
