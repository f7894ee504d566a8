use Rattle.std.proofs.Common.{◌≡◌, inr, false, length, Ok, refl, sym, ap, ◌∙◌, rules}
use Rattle.driver_model.specs.States.{is_out}
use Rattle.driver_model.specs.declared.replies.Answer.TheVariants.{Bytes}
use Rattle.driver_objects.specs.Stored.{value_of}
use Rattle.driver_core.proofs.Out.{not_out_not_owed}
use Rattle.driver_core.proofs.PixelBits.{found_pixels, pixels_wait}
use Rattle.driver_core.proofs.Steps.{finding}
use Rattle.driver_core.proofs.driver.Core.output_get_bits.Goals as goal

pub returns-then-is_out-clause-calls : goal.returns-then-is_out-clause-calls
returns-then-is_out-clause-calls c d caller stands =
    let a = c.args in
    let e = c.in-Ok.ensures in
    (pixels_wait a.self.now a.surface (length a.out.now) c.in-Ok.index e.live e.finds e.count c.object.result.now c.object.ensures d stands (sym (c.is_out.ensures d stands) ∙ c.if-is_out.true), stands)

pub returns-else-is_out-clause-calls : goal.returns-else-is_out-clause-calls
returns-else-is_out-clause-calls c d caller stands =
    let a = c.args in
    let e = c.in-Ok.ensures in
    let found = found_pixels a.self.now a.surface (length a.out.now) c.in-Ok.index e.live e.finds e.count c.object.result.now c.object.ensures d stands c.output_at.result.now c.output_at.ensures in
    let home : is_out d c.object.result.now.place ≡ false = sym (c.is_out.ensures d stands) ∙ c.if-is_out.false in
    let written : c.copy_from_slice.new.self ≡ (value_of c.output_at.result.now.pixels).items = search rules in
    let bytes = written ∙ found.is_content.3 (not_out_not_owed d c.object.result.now.place home) in
    record { after = d; step = inr (finding _ _ _ _ found.looks (home, (ap (λ b. Ok (Bytes b)) bytes, refl))); stands = stands }
