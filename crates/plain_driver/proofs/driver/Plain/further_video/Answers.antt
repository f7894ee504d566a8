use Rattle.std.proofs.Common.{◌∙◌}
use Rattle.driver_model.specs.Objects.{as_video}
use Rattle.plain_driver.specs.States.{state_of}
use Rattle.driver_model.specs.declared.numbers.TheConstants.{VIDEO_SURFACE}
use Rattle.plain_driver.proofs.Finding.{further_is}
use Rattle.plain_driver.proofs.KindNumbers.{video_kind}
use Rattle.plain_driver.proofs.driver.Plain.further_video.Goals as goal

pub returns : goal.returns
returns c = c.further.ensures ∙ further_is as_video VIDEO_SURFACE video_kind c.args.name (state_of c.args.self.now) c.args.arg c.args.device
