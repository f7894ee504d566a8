use Rattle.std.proofs.Common.{◌==◌, ◌∙◌, ap, not}
use Rattle.vd_status.specs.declared.refusal.Refusal.TheVariants.{BadSize, BadYCbCr}
use Rattle.driver_model.specs.Refusals.{refused_if}
use Rattle.std.proofs.lemmas.Result.{err_from_is_err_and}
use Rattle.driver_model.specs.Objects.{as_video}
use Rattle.plain_driver.specs.States.{state_of, video_of}
use Rattle.plain_driver.proofs.Goes.{at_some}
use Rattle.plain_driver.proofs.SurfaceSteps.{video_bits-err, video_bits-ok}
use Rattle.plain_driver.proofs.driver.Plain.video_bits.Goals as goal

pub video_in-requires : goal.video_in-requires
video_in-requires c = at_some as_video c.args.surface (state_of c.args.self.now) c.in_ok-place.place c.in_ok-place.ensures

pub returns-in_err-refused_if-2 : goal.returns-in_err-refused_if-2
returns-in_err-refused_if-2 c =
    let p = err_from_is_err_and c.from_residual-in_err-refused_if-2.result c.from_residual-in_err-refused_if-2.ensures.1 in
    rw (p.1, p.2) (video_bits-err (state_of c.args.self.now) c.args.surface c.args.format c.args.count c.in_ok-place.place (video_of c.video_in.result.now) c.in_err-refused_if-2.field-0.0 c.in_ok-place.ensures c.video_in.ensures
    (c.in_ok-refused_if.ensures ∙ ap (λ b. refused_if (not b) BadYCbCr) c.is_ycbcr_format.ensures)
    (c.in_err-refused_if-2.ensures ∙ ap (λ n. refused_if (not (c.args.count == n)) BadSize) c.sample_bytes.ensures))

pub returns : goal.returns
returns c = video_bits-ok (state_of c.args.self.now) c.args.surface c.args.format c.args.count c.in_ok-place.place (video_of c.video_in.result.now) c.in_ok-place.ensures c.video_in.ensures
    (c.in_ok-refused_if.ensures ∙ ap (λ b. refused_if (not b) BadYCbCr) c.is_ycbcr_format.ensures)
    (c.in_ok-refused_if-2.ensures ∙ ap (λ n. refused_if (not (c.args.count == n)) BadSize) c.sample_bytes.ensures)
