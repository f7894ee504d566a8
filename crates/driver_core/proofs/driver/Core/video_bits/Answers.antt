use Rattle.std.proofs.Common.{◌≡◌, ◌==◌, true, false, refl, ap, ◌∙◌, arith}
use Rattle.std.proofs.lemmas.Bool.Decides.{nat_tests}
use Rattle.bits_io.specs.ByteOrder.{byte_count}
use Rattle.driver_model.specs.Sizes.{is_ycbcr_format, sample_bytes}
use Rattle.driver_core.proofs.Bits.{bits_of_no_format, bits_of_no_size, counted}
use Rattle.driver_core.proofs.driver.Core.video_bits.Goals as goal

pub returns-then-not-is_ycbcr_format-clause-refuses : goal.returns-then-not-is_ycbcr_format-clause-refuses
returns-then-not-is_ycbcr_format-clause-refuses c d stands =
    let live = c.in_ok-index.ensures.live in
    let found = c.in_ok-index.ensures.finds _ (record { object = live.object; there = live.there; has = refl }) d stands in
    let bad : is_ycbcr_format c.args.format ≡ false = grind (arith, c.is_ycbcr_format.ensures, c.if-not-is_ycbcr_format.true) in
    bits_of_no_format d c.args.surface c.args.format c.args.count _ found.looks bad

pub returns-then-count-byte_count-clause-refuses : goal.returns-then-count-byte_count-clause-refuses
returns-then-count-byte_count-clause-refuses c d stands =
    let found = c.in_ok-index.ensures.finds _ c.video_at.ensures d stands in
    let is : is_ycbcr_format c.args.format ≡ true = grind (arith, c.is_ycbcr_format.ensures, c.if-not-is_ycbcr_format.false) in
    let size : c.byte_count.result ≡ sample_bytes found.value.size =
    c.byte_count.ensures ∙ (ap byte_count c.get.ensures ∙ counted c.args.self.now d 0 c.args.surface c.in_ok-index.index c.video_at.result.now c.video_at.ensures found) in
    let other : (c.args.count == sample_bytes found.value.size) ≡ false = let e = c.if-count-byte_count.true in grind (arith, nat_tests, size, e) in
    bits_of_no_size d c.args.surface c.args.format c.args.count _ found.looks is other
