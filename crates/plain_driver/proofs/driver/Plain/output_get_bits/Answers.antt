use Rattle.std.proofs.Common.{◌≡◌, ◌∙◌, ap, inr, length, sym}
use Rattle.std.specs.Option.{is_some}
use Rattle.driver_model.specs.Objects.{OutputSurface}
use Rattle.driver_model.specs.Sizes.{pixel_bytes}
use Rattle.plain_driver.specs.States.{output_of, state_of}
use Rattle.plain_driver.proofs.Goes.{some_one}
use Rattle.plain_driver.proofs.SurfaceSteps.{output_bits-at, output_get_bits}
use Rattle.plain_driver.proofs.driver.Plain.output_get_bits.Goals as goal

pub output_in-requires : goal.output_in-requires
output_in-requires c = ap is_some (output_bits-at (state_of c.args.self.now) c.args.surface (length c.args.out.now) c.in-Ok.place c.in-Ok.ensures).content

pub copy_from_slice-requires : goal.copy_from_slice-requires
copy_from_slice-requires c =
    let on = output_bits-at (state_of c.args.self.now) c.args.surface (length c.args.out.now) c.in-Ok.place c.in-Ok.ensures in
    let of = c.output_in.result.now in
    let same : output_of of ≡ on.found.value = some_one (output_of of) on.found.value (sym c.output_in.ensures ∙ on.content) in
    on.fits ∙ (ap (λ (v : OutputSurface). pixel_bytes v.size) (sym same) ∙ (sym of.count ∙ ap length (sym c.deref.ensures.value)))

pub returns-clause-step : goal.returns-clause-step
returns-clause-step c = λ caller. inr (output_get_bits (state_of c.args.self.now) c.args.surface (length c.args.out.now) c.in-Ok.place (output_of c.output_in.result.now) c.copy_from_slice.new.self c.in-Ok.ensures c.output_in.ensures (sym c.is_out.ensures ∙ c.if-is_out.false) (c.copy_from_slice.ensures.after ∙ c.deref.ensures.value))
