use Rattle.std.proofs.Common.{sym}
use Rattle.driver_model.specs.Answers.{reply_with}
use Rattle.driver_model.specs.Creates.{IsNewVideo, video_create}
use Rattle.driver_model.specs.Objects.{VideoObject, VideoSurface}
use Rattle.driver_model.specs.declared.replies.Answer.TheVariants.{Name}
use Rattle.plain_driver.specs.States.{state_of}
use Rattle.plain_driver.proofs.CreateSteps.{is_new_video}
use Rattle.plain_driver.proofs.Goes.{creates_ok}
use Rattle.plain_driver.proofs.driver.Plain.video_create.Goals as goal

pub returns : goal.returns
returns c =
    let old = state_of c.args.self.now in
    let of : VideoSurface = record { size = c.in_ok-size.size; picture = c.in-Ok.picture } in
    λ caller. creates_ok old (reply_with Name c.add.result) (state_of c.add.new.self) (video_create old c.args.device c.args.chroma c.args.width c.args.height) (IsNewVideo c.args.width c.args.height) c.in_ok-place.place (VideoObject of)
    (sym c.in_ok-place.ensures) (is_new_video c.args.width c.args.height c.in_ok-size.size c.in-Ok.picture c.in_ok-size.ensures.size c.in-Ok.ensures.zeros) c.add.ensures
