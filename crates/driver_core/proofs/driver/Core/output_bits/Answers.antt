use Rattle.std.proofs.Common.{◌≡◌, ◌==◌, false, length, arith, rules}
use Rattle.std.proofs.lemmas.Bool.Decides.{nat_tests}
use Rattle.driver_model.specs.Sizes.{pixel_bytes}
use Rattle.driver_objects.specs.Stored.{value_of}
use Rattle.driver_core.proofs.PixelBits.{pixels_counted, pixels_of_no_size}
use Rattle.driver_core.proofs.driver.Core.output_bits.Goals as goal

pub returns-then-count-len-clause-refuses : goal.returns-then-count-len-clause-refuses
returns-then-count-len-clause-refuses c d stands =
    let found = c.in_ok-index.ensures.finds _ c.output_at.ensures d stands in
    let counted = pixels_counted c.args.self.now d 0 c.args.surface c.in_ok-index.index c.output_at.result.now c.output_at.ensures found in
    let size : length (value_of c.output_at.result.now.pixels).items ≡ c.len.result = search rules in
    let other : (c.args.count == pixel_bytes found.value.size) ≡ false = let e = c.if-count-len.true in grind (arith, nat_tests, size, counted, e) in
    pixels_of_no_size d c.args.surface c.args.count _ found.looks other
