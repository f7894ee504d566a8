use Rattle.std.proofs.Common.{◌∙◌, ap, not, refl}
use Rattle.std.specs.Option.{is_some}
use Rattle.std.proofs.lemmas.Result.{err_from_is_err_and}
use Rattle.vd_status.specs.declared.refusal.Refusal.TheVariants.{BadSize}
use Rattle.driver_model.specs.Objects.{as_mixer, as_output, as_video}
use Rattle.driver_model.specs.Refusals.{refused_if}
use Rattle.plain_driver.specs.States.{mixer_of, output_of, state_of, video_of}
use Rattle.plain_driver.proofs.Goes.{at_some}
use Rattle.plain_driver.proofs.MixLooks.{all_are_found, further_place, refused_output, refused_size, refused_structure, refused_video}
use Rattle.plain_driver.proofs.driver.Plain.may_mix.Goals as goal

pub returns-in_err-video : goal.returns-in_err-video
returns-in_err-video c =
    let p = err_from_is_err_and c.from_residual-in_err-video.result c.from_residual-in_err-video.ensures.1 in
    rw (p.1, p.2) (refused_video (state_of c.args.self.now) c.args.mixer c.args.structure c.args.video c.args.output c.in_ok-mixer.mixer c.device_at-device.result c.in_ok-mixer.ensures c.device_at-device.ensures c.in_err-video.field-0.0 c.in_err-video.ensures)

pub returns-in_err-output : goal.returns-in_err-output
returns-in_err-output c =
    let p = err_from_is_err_and c.from_residual-in_err-output.result c.from_residual-in_err-output.ensures.1 in
    rw (p.1, p.2) (refused_output (state_of c.args.self.now) c.args.mixer c.args.structure c.args.video c.args.output c.in_ok-mixer.mixer c.device_at-device.result c.in_ok-mixer.ensures c.device_at-device.ensures c.in_ok-video.video c.in_ok-video.ensures c.in_err-output.field-0.0 c.in_err-output.ensures)

pub returns-in_err-refused_if : goal.returns-in_err-refused_if
returns-in_err-refused_if c =
    let p = err_from_is_err_and c.from_residual-in_err-refused_if.result c.from_residual-in_err-refused_if.ensures.1 in
    rw (p.1, p.2) (refused_structure (state_of c.args.self.now) c.args.mixer c.args.structure c.args.video c.args.output c.in_ok-mixer.mixer c.device_at-device.result c.in_ok-mixer.ensures c.device_at-device.ensures c.in_ok-video.video c.in_ok-video.ensures c.in_ok-output.output c.in_ok-output.ensures c.in_err-refused_if.field-0.0 c.in_err-refused_if.ensures)

pub mixer_in-requires : goal.mixer_in-requires
mixer_in-requires c = at_some as_mixer c.args.mixer (state_of c.args.self.now) c.in_ok-mixer.mixer c.in_ok-mixer.ensures

pub video_in-requires : goal.video_in-requires
video_in-requires c = ap is_some (further_place as_video c.args.video (state_of c.args.self.now) 1 c.device_at-device.result c.device_at-device.result c.in_ok-video.video refl c.in_ok-video.ensures).content

pub output_in-requires : goal.output_in-requires
output_in-requires c = ap is_some (further_place as_output c.args.output (state_of c.args.self.now) 2 c.device_at-device.result c.device_at-device.result c.in_ok-output.output refl c.in_ok-output.ensures).content

pub returns-in_err-refused_if-2 : goal.returns-in_err-refused_if-2
returns-in_err-refused_if-2 c =
    let p = err_from_is_err_and c.from_residual-in_err-refused_if-2.result c.from_residual-in_err-refused_if-2.ensures.1 in
    rw (p.1, p.2) (refused_size (state_of c.args.self.now) c.args.mixer c.args.structure c.args.video c.args.output c.in_ok-mixer.mixer c.device_at-device.result c.in_ok-mixer.ensures c.device_at-device.ensures c.in_ok-video.video c.in_ok-video.ensures c.in_ok-output.output c.in_ok-output.ensures (mixer_of c.mixer_in.result) (video_of c.video_in.result.now) (output_of c.output_in.result.now) c.mixer_in.ensures c.video_in.ensures c.output_in.ensures c.in_err-refused_if-2.field-0.0 c.in_ok-refused_if.ensures
    (c.in_err-refused_if-2.ensures ∙ ap (λ b. refused_if (not b) BadSize) c.fit_together-fits.ensures))

pub returns : goal.returns
returns c = all_are_found (state_of c.args.self.now) c.args.mixer c.args.structure c.args.video c.args.output c.in_ok-mixer.mixer c.device_at-device.result c.in_ok-mixer.ensures c.device_at-device.ensures c.in_ok-video.video c.in_ok-video.ensures c.in_ok-output.output c.in_ok-output.ensures (mixer_of c.mixer_in.result) (video_of c.video_in.result.now) (output_of c.output_in.result.now) c.mixer_in.ensures c.video_in.ensures c.output_in.ensures c.in_ok-refused_if.ensures
    (c.in_ok-refused_if-2.ensures ∙ ap (λ b. refused_if (not b) BadSize) c.fit_together-fits.ensures)
