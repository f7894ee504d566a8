use Rattle.std.proofs.Common.{◌∙◌}
use Rattle.driver_model.specs.Objects.{as_mixer}
use Rattle.driver_model.specs.declared.numbers.TheConstants.{VIDEO_MIXER}
use Rattle.plain_driver.specs.States.{state_of}
use Rattle.plain_driver.proofs.Finding.{used_is}
use Rattle.plain_driver.proofs.KindNumbers.{mixer_kind}
use Rattle.plain_driver.proofs.driver.Plain.mixer.Goals as goal

pub returns : goal.returns
returns c = c.used.ensures ∙ used_is as_mixer VIDEO_MIXER mixer_kind c.args.name (state_of c.args.self.now) 0
