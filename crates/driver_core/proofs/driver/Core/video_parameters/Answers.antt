use Rattle.std.proofs.Common.{◌≡◌, inr, Ok, refl, ap, ◌∙◌, arith}
use Rattle.cb_types.specs.SizeMbs.{luma_height, luma_width}
use Rattle.driver_model.specs.declared.replies.Answer.TheVariants.{Size}
use Rattle.driver_core.proofs.Steps.{finding}
use Rattle.driver_core.proofs.driver.Core.video_parameters.Goals as goal

pub luma_width-requires : goal.luma_width-requires
luma_width-requires c =
    let has = c.video_at.ensures in
    let size = c.args.self.now.sound.videos c.in-Ok.index has.object c.video_at.result.now has.there has.has in
    omega (arith, size.0.columns)

pub luma_height-requires : goal.luma_height-requires
luma_height-requires c =
    let has = c.video_at.ensures in
    let size = c.args.self.now.sound.videos c.in-Ok.index has.object c.video_at.result.now has.there has.has in
    omega (arith, size.0.rows)

pub returns-in-Ok : goal.returns-in-Ok
returns-in-Ok c d caller stands =
    let found = c.in-Ok.ensures.finds _ c.video_at.ensures d stands in
    let width : c.luma_width.result ≡ luma_width found.value.size = c.luma_width.ensures ∙ ap luma_width found.is.0 in
    let height : c.luma_height.result ≡ luma_height found.value.size = c.luma_height.ensures ∙ ap luma_height found.is.0 in
    record { after = d; step = inr (finding _ _ _ _ found.looks (λ i. Ok (Size (record { chroma = 0; width = width i; height = height i })), refl)); stands = stands }
