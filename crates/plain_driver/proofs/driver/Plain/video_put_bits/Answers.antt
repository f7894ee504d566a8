use Rattle.std.proofs.Common.{◌≡◌, ◌∙◌, ap, inr, length, sym}
use Rattle.std.specs.Option.{is_some}
use Rattle.driver_model.specs.Objects.{VideoSurface, as_video}
use Rattle.driver_model.specs.Sizes.{sample_bytes}
use Rattle.plain_driver.specs.States.{state_of, video_of}
use Rattle.plain_driver.proofs.Goes.{at_below, some_one}
use Rattle.plain_driver.proofs.SurfaceSteps.{bytes_by_size, same_size-then, same_sizes, video_bits-at, video_put_bits}
use Rattle.plain_driver.proofs.driver.Plain.video_put_bits.Goals as goal

pub video_in-requires : goal.video_in-requires
video_in-requires c = ap is_some (video_bits-at (state_of c.args.self.now) c.args.surface c.args.format (length c.args.bytes.now) c.in-Ok.place c.in-Ok.ensures).content

pub put-requires-clause-count : goal.put-requires-clause-count
put-requires-clause-count c =
    let on = video_bits-at (state_of c.args.self.now) c.args.surface c.args.format (length c.args.bytes.now) c.in-Ok.place c.in-Ok.ensures in
    let of = c.video_in.result.now in
    let same : video_of of ≡ on.found.value = some_one (video_of of) on.found.value (sym c.video_in.ensures ∙ on.content) in
    on.fits ∙ (ap (λ (v : VideoSurface). sample_bytes v.size) (sym same) ∙ sym (bytes_by_size c.in-Ok-of_size.picture of.size c.in-Ok-of_size.ensures.size))

pub put-requires-2 : goal.put-requires-2
put-requires-2 c =
    let on = video_bits-at (state_of c.args.self.now) c.args.surface c.args.format (length c.args.bytes.now) c.in-Ok.place c.in-Ok.ensures in
    at_below as_video c.args.surface c.args.self.now c.in-Ok.place on.first

pub returns-clause-step : goal.returns-clause-step
returns-clause-step c =
    let of = c.video_in.result.now in
    let new = c.put.new.picture in
    λ caller. inr (video_put_bits (state_of c.args.self.now) c.args.surface c.args.format c.in-Ok.place (video_of of) c.args.bytes.now new (state_of c.put-2.new.self) c.in-Ok.ensures c.video_in.ensures (sym c.is_out.ensures ∙ c.if-is_out.false)
    (same_sizes of.picture new of.size of.sides (same_size-then c.in-Ok-of_size.picture new of.size c.in-Ok-of_size.ensures.size c.put.ensures.size)) c.put.ensures.bytes c.put-2.ensures)
