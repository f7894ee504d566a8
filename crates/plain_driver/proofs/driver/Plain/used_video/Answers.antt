use Rattle.std.proofs.Common.{◌∙◌}
use Rattle.driver_model.specs.Objects.{as_video}
use Rattle.driver_model.specs.declared.numbers.TheConstants.{VIDEO_SURFACE}
use Rattle.plain_driver.specs.States.{state_of}
use Rattle.plain_driver.proofs.Finding.{used_is}
use Rattle.plain_driver.proofs.KindNumbers.{video_kind}
use Rattle.plain_driver.proofs.driver.Plain.used_video.Goals as goal

pub returns : goal.returns
returns c = c.used.ensures ∙ used_is as_video VIDEO_SURFACE video_kind c.args.name (state_of c.args.self.now) c.args.arg
