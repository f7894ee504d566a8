use Rattle.std.proofs.Common.{◌==◌, ◌∙◌, ap, not}
use Rattle.std.proofs.lemmas.Result.{err_from_is_err_and}
use Rattle.vd_status.specs.declared.refusal.Refusal.TheVariants.{BadSize}
use Rattle.driver_model.specs.Refusals.{refused_if}
use Rattle.driver_model.specs.Objects.{as_output}
use Rattle.plain_driver.specs.States.{output_of, state_of}
use Rattle.plain_driver.proofs.Goes.{at_some}
use Rattle.plain_driver.proofs.SurfaceSteps.{output_bits-err, output_bits-ok}
use Rattle.plain_driver.proofs.driver.Plain.output_bits.Goals as goal

pub output_in-requires : goal.output_in-requires
output_in-requires c = at_some as_output c.args.surface (state_of c.args.self.now) c.in_ok-place.place c.in_ok-place.ensures

pub returns-in_err-refused_if : goal.returns-in_err-refused_if
returns-in_err-refused_if c =
    let p = err_from_is_err_and c.from_residual-in_err-refused_if.result c.from_residual-in_err-refused_if.ensures.1 in
    rw (p.1, p.2) (output_bits-err (state_of c.args.self.now) c.args.surface c.args.count c.in_ok-place.place (output_of c.output_in.result.now) c.in_err-refused_if.field-0.0 c.in_ok-place.ensures c.output_in.ensures
    (c.in_err-refused_if.ensures ∙ ap (λ n. refused_if (not (c.args.count == n)) BadSize) c.pixel_bytes.ensures.value))

pub returns : goal.returns
returns c = output_bits-ok (state_of c.args.self.now) c.args.surface c.args.count c.in_ok-place.place (output_of c.output_in.result.now) c.in_ok-place.ensures c.output_in.ensures
    (c.in_ok-refused_if.ensures ∙ ap (λ n. refused_if (not (c.args.count == n)) BadSize) c.pixel_bytes.ensures.value)
