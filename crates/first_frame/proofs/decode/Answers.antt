use Rattle.std.proofs.Common.{rules, ap, true, ◌∙◌}
use Rattle.access_units.specs.Acceptors.{settling}
use Rattle.device_lock.specs.Passes.{pass_lock}
use Rattle.driver.specs.declared.driver.Pass.{Pass}
use Rattle.first_frame.proofs.decode.Goals as goal

pub loop-output-preserved : goal.loop-output-preserved
loop-output-preserved g c =
    let given = c.in_ok-picture.ensures in (
      ap (λ (p : Pass). pass_lock p.token) c.in_ok-pass.ensures ∙ (c.end_mix.ensures.same_driver ∙ search rules),
      (settling given.0 true, c.settle.ensures given.0 given.1 given.2, λ none. cc),
    )
