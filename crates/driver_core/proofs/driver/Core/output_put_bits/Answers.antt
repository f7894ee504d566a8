use Rattle.std.proofs.Common.{◌≡◌, inr, false, length, refl, sym, ap, ◌∙◌, arith}
use Rattle.driver_model.specs.Objects as model
use Rattle.driver_model.specs.States.{is_out}
use Rattle.driver_core.proofs.PixelBits.{found_pixels, output_fits, pixels_wait}
use Rattle.driver_core.proofs.Steps.{finding, same_queues}
use Rattle.driver_core.proofs.driver.Core.output_put_bits.Goals as goal

pub returns-then-is_out : goal.returns-then-is_out
returns-then-is_out c d caller stands =
    let a = c.args in
    let e = c.in-Ok.ensures in
    (pixels_wait a.self.now a.surface (length a.bytes.now) c.in-Ok.index e.live e.finds e.count c.object.result.now c.object.ensures d stands (sym (c.is_out.ensures d stands) ∙ c.if-is_out.true), stands)

pub write-requires : goal.write-requires
write-requires c =
    let what = c.output_at-surface.result.now in
    let has = c.output_at-surface.ensures in
    let fits = c.args.self.now.sound.outputs c.in-Ok.index has.object what has.there has.has in
    let items = c.in-Ok-to_vec.ensures.items_if_clones_equal (λ x y is. is) in
    (_, has, record { kind = refl; device = refl; holder = refl; number = refl }, output_fits _ fits.0 (ap length items ∙ (c.in-Ok.ensures.count what has ∙ fits.1)) fits.2)

pub returns-in-Ok-to_vec : goal.returns-in-Ok-to_vec
returns-in-Ok-to_vec c d caller stands =
    let a = c.args in
    let e = c.in-Ok.ensures in
    let what = c.output_at-surface.result.now in
    let has = c.output_at-surface.ensures in
    let object = c.object.result.now in
    let found = found_pixels a.self.now a.surface (length a.bytes.now) c.in-Ok.index e.live e.finds e.count object c.object.ensures d stands what has in
    let home : is_out d object.place ≡ false = sym (c.is_out.ensures d stands) ∙ c.if-is_out.false in
    let content = model.OutputObject (record found.value { bytes = a.bytes.now }) in
    let queues = same_queues a.self.now d stands c.in-Ok.index object content c.object.ensures (λ q. let k = found.kind in absurd (omega (arith, k, q))) refl in
    record {
      after = _;
      step = inr (finding _ _ _ _ found.looks (home, (refl, refl)));
      stands = c.write.ensures d object content stands c.object.ensures queues (found.is_content.0, found.is_content.1, found.is_content.2, λ _. c.in-Ok-to_vec.ensures.items_if_clones_equal (λ x y is. is));
    }
