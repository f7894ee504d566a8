use Rattle.std.proofs.Common.{◌≡◌, inr, false, length, Ok, refl, sym, ap, ◌∙◌}
use Rattle.bits_io.specs.ByteOrder.{bytes_of}
use Rattle.driver_model.specs.States.{is_out}
use Rattle.driver_model.specs.declared.replies.Answer.TheVariants.{Bytes}
use Rattle.driver_core.proofs.Bits.{bits_wait, found_bits}
use Rattle.driver_core.proofs.Out.{not_out_not_owed}
use Rattle.driver_core.proofs.Steps.{finding}
use Rattle.driver_core.proofs.driver.Core.video_get_bits.Goals as goal

pub returns-then-is_out-clause-calls : goal.returns-then-is_out-clause-calls
returns-then-is_out-clause-calls c d caller stands =
    let a = c.args in
    let e = c.in-Ok.ensures in
    (bits_wait a.self.now a.surface a.format (length a.out.now) c.in-Ok.index e.live e.finds e.format e.count c.object.result.now c.object.ensures d stands (sym (c.is_out.ensures d stands) ∙ c.if-is_out.true), stands)

pub returns-else-is_out-clause-calls : goal.returns-else-is_out-clause-calls
returns-else-is_out-clause-calls c d caller stands =
    let a = c.args in
    let e = c.in-Ok.ensures in
    let found = found_bits a.self.now a.surface a.format (length a.out.now) c.in-Ok.index e.live e.finds e.format e.count c.object.result.now c.object.ensures d stands c.video_at.result.now c.video_at.ensures in
    let home : is_out d c.object.result.now.place ≡ false = sym (c.is_out.ensures d stands) ∙ c.if-is_out.false in
    let bytes = c.get-in-Ok.ensures ∙ ap (bytes_of a.format) (c.get.ensures ∙ found.is_content.1 (not_out_not_owed d c.object.result.now.place home)) in
    record { after = d; step = inr (finding _ _ _ _ found.looks (home, (ap (λ b. Ok (Bytes b)) bytes, refl))); stands = stands }
