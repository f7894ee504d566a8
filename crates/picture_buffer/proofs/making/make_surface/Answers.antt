use Rattle.picture_buffer.proofs.MakingAnswers.{video_wants}
use Rattle.picture_buffer.proofs.MakingSteps.{surface_made}
use Rattle.picture_buffer.proofs.making.make_surface.Goals as goal

pub made-requires : goal.made-requires
made-requires c =
    video_wants c.args.core.now c.video_create.new.self c.args.device c.args.size c.requires.limits c.luma_width-width.result c.luma_height-height.result c.luma_width-width.ensures c.luma_height-height.ensures
    c.video_create.result c.requires.room c.video_create.ensures

pub returns : goal.returns
returns c =
    surface_made c.args.core.now c.video_create.new.self c.args.device c.args.size c.luma_width-width.result c.luma_height-height.result c.luma_width-width.ensures c.luma_height-height.ensures
    c.video_create.result c.video_create.ensures c.made.result c.made.ensures
