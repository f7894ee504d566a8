use Rattle.std.proofs.Common.{◌≡◌, ◌==◌, true, sym, ◌∙◌, arith}
use Rattle.std.proofs.lemmas.Bool.Decides.{nat_tests}
use Rattle.driver_model.specs.declared.numbers.TheConstants as number
use Rattle.driver_core.proofs.MixLooks.{mix_found, sizes_there}
use Rattle.driver_core.proofs.driver.Core.mixing.Goals as goal

pub returns-clause-finds : goal.returns-clause-finds
returns-clause-finds c d stands =
    let a = c.args in
    let is = c.in_ok-at.ensures.named d stands in
    let frame : (a.structure == number.FRAME) ≡ true = let e = c.if-structure-ne-FRAME.false in grind (arith, nat_tests, e) in
    let one = sizes_there a.self.now a.mixer a.video a.output c.in_ok-at.at d is (λ m v o hm hv ho. sym (c.is_one_size.ensures m v o hm hv ho) ∙ c.if-not-is_one_size.false) in
    (is, mix_found d a.mixer a.structure a.video a.output is.on.mixer is.of_mixer is.on.video is.of_video is.on.output is.of_output frame one)
