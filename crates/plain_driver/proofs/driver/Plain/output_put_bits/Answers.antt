use Rattle.std.proofs.Common.{◌≡◌, ◌∙◌, List, ℕ, ap, inr, length, sym}
use Rattle.std.specs.Option.{is_some}
use Rattle.driver_model.specs.Objects.{OutputObject, OutputSurface, as_output}
use Rattle.driver_model.specs.Sizes.{pixel_bytes}
use Rattle.driver_model.specs.States.{with_content}
use Rattle.plain_driver.specs.States.{output_of, state_of}
use Rattle.plain_driver.proofs.Goes.{at_below, some_one}
use Rattle.plain_driver.proofs.SurfaceSteps.{output_bits-at, output_put_bits}
use Rattle.plain_driver.proofs.driver.Plain.output_put_bits.Goals as goal

pub output_in-output-requires : goal.output_in-output-requires
output_in-output-requires c = ap is_some (output_bits-at (state_of c.args.self.now) c.args.surface (length c.args.bytes.now) c.in-Ok.place c.in-Ok.ensures).content

pub invariant_of-content : goal.invariant_of-content
invariant_of-content c =
    let on = output_bits-at (state_of c.args.self.now) c.args.surface (length c.args.bytes.now) c.in-Ok.place c.in-Ok.ensures in
    let of = c.output_in-output.result.now in
    let same : output_of of ≡ on.found.value = some_one (output_of of) on.found.value (sym c.output_in-output.ensures ∙ on.content) in
    record {
      within = of.within;
      known = of.known;
      count = ap length c.in-Ok-from_slice.ensures.items ∙ (on.fits ∙ ap (λ (v : OutputSurface). pixel_bytes v.size) (sym same));
    }

pub put-requires : goal.put-requires
put-requires c =
    let on = output_bits-at (state_of c.args.self.now) c.args.surface (length c.args.bytes.now) c.in-Ok.place c.in-Ok.ensures in
    at_below as_output c.args.surface c.args.self.now c.in-Ok.place on.first

pub returns-clause-step : goal.returns-clause-step
returns-clause-step c =
    let s = state_of c.args.self.now in
    let of = c.output_in-output.result.now in
    λ caller. inr (output_put_bits s c.args.surface c.in-Ok.place (output_of of) c.args.bytes.now (state_of c.put.new.self) c.in-Ok.ensures c.output_in-output.ensures (sym c.is_out.ensures ∙ c.if-is_out.false)
    (c.put.ensures ∙ ap (λ (bytes : List ℕ). with_content s c.in-Ok.place (OutputObject (record (output_of of) { bytes = bytes }))) c.in-Ok-from_slice.ensures.items))
