use Rattle.std.proofs.Common.{inr}
use Rattle.driver_model.specs.Objects.{as_video}
use Rattle.plain_driver.specs.States.{state_of, video_of}
use Rattle.plain_driver.proofs.Goes.{at_some}
use Rattle.plain_driver.proofs.SurfaceSteps.{video_parameters}
use Rattle.plain_driver.proofs.driver.Plain.video_parameters.Goals as goal

pub video_in-requires : goal.video_in-requires
video_in-requires c = at_some as_video c.args.surface (state_of c.args.self.now) c.in_ok-place.place c.in_ok-place.ensures

pub returns : goal.returns
returns c = λ caller. inr (rw (c.luma_width.ensures, c.luma_height.ensures) (video_parameters (state_of c.args.self.now) c.args.surface c.in_ok-place.place (video_of c.video_in.result.now) c.in_ok-place.ensures c.video_in.ensures))
