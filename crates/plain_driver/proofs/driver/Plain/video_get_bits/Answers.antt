use Rattle.std.proofs.Common.{◌≡◌, ◌∙◌, ap, inr, length, sym}
use Rattle.std.specs.Option.{is_some}
use Rattle.driver_model.specs.Objects.{VideoSurface}
use Rattle.driver_model.specs.Sizes.{sample_bytes}
use Rattle.plain_driver.specs.States.{state_of, video_of}
use Rattle.plain_driver.proofs.Goes.{some_one}
use Rattle.plain_driver.proofs.SurfaceSteps.{bytes_by_size, video_bits-at, video_get_bits}
use Rattle.plain_driver.proofs.driver.Plain.video_get_bits.Goals as goal

pub video_in-requires : goal.video_in-requires
video_in-requires c = ap is_some (video_bits-at (state_of c.args.self.now) c.args.surface c.args.format (length c.args.out.now) c.in-Ok.place c.in-Ok.ensures).content

pub get-requires-clause-count : goal.get-requires-clause-count
get-requires-clause-count c =
    let on = video_bits-at (state_of c.args.self.now) c.args.surface c.args.format (length c.args.out.now) c.in-Ok.place c.in-Ok.ensures in
    let of = c.video_in.result.now in
    let same : video_of of ≡ on.found.value = some_one (video_of of) on.found.value (sym c.video_in.ensures ∙ on.content) in
    on.fits ∙ (ap (λ (v : VideoSurface). sample_bytes v.size) (sym same) ∙ sym (bytes_by_size of.picture of.size of.sides))

pub returns-clause-step : goal.returns-clause-step
returns-clause-step c = λ caller. inr (video_get_bits (state_of c.args.self.now) c.args.surface c.args.format (length c.args.out.now) c.in-Ok.place (video_of c.video_in.result.now) c.get.new.out c.in-Ok.ensures c.video_in.ensures (sym c.is_out.ensures ∙ c.if-is_out.false) c.get.ensures)
